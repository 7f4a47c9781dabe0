-- What the order of a yes draws.
use Rattle.std.specs.Prelude.{◌≡◌, ℕ, ◌+◌, List, ◌++◌, Some, is_some}
use Rattle.std.specs.Global.{Vec}
use Rattle.lf_rules.specs.declared.event.Record.{Record}
use Rattle.lf_rules.specs.Fits.{Bytes}
use Rattle.lf_rules.specs.Run.{Interleaves}
use Rattle.lf_rules.specs.Order.{Takes}
use Rattle.lf_codec.specs.declared.header.Header.{Header}
use Rattle.lf_codec.specs.Trace.{IsTrace}
use Rattle.lf_logs.specs.Lists.{logs_of}
use Rattle.wave_signals.specs.Head.{head_text}
use Rattle.wave_signals.specs.Wave.{undrawn, wave_from}
use Rattle.wave_draw.specs.declared.drawing.Drawing.{Drawing}
use Rattle.wave_order.specs.Ordered.{in_order, Names}
use Rattle.wave_draw.specs.Viewing.{wave_of}

-- Where the order takes a list from the logs of some records, these records in the order are that list, and the order
-- names them.
abbrev pub OrdersTakeInOrder : Type 0
OrdersTakeInOrder = (logs : List (List Record)) (records : List Record) (order : List ℕ) (taken : List Record) →
    Interleaves logs records → Takes logs order taken → (in_order order records ≡ taken) × Names order records

-- The wave of a trace in the order of a yes, which takes an interleaving from the logs of the ports and of the banks,
-- is that of the interleaving.
abbrev pub YesIsDrawnInItsOrder : Type 0
YesIsDrawnInItsOrder = (drawing : Drawing) (order : Vec ℕ) (bytes : List ℕ) (h : Header) (memory : List (ℕ × Bytes))
    (records interleaving : List Record) → drawing.order ≡ Some order → IsTrace bytes h memory records
    → Takes (logs_of (h.ports + h.banks) records) order.items interleaving
    → wave_of drawing bytes ≡ head_text (is_some drawing.times) drawing.view h.ports h.banks
    ++ wave_from drawing.times (undrawn drawing.view) interleaving
