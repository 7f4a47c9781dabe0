-- The head of a wave: the scopes with their signals, and the values before the first record that is shown.
use Rattle.std.specs.Prelude.{ℕ, Bool, true, false, nat_lt, if◌then◌else◌, Option, Some, None, List, [], ◌++◌, codes}
use Rattle.std.specs.Prelude.{flat_map}
use Rattle.std.specs.List.{range_with_len}
use Rattle.std.specs.Fmt.{decimal}
use Rattle.wave_signals.specs.declared.registers.Level.{Level}
use Rattle.wave_signals.specs.declared.registers.Level.TheVariants as levels
use Rattle.wave_signals.specs.declared.signal.Named.{Named}
use Rattle.wave_signals.specs.declared.signal.Named.TheVariants as names
use Rattle.wave_signals.specs.declared.signal.Signal.{Signal}
use Rattle.wave_signals.specs.declared.signal.Signal.TheVariants as signals
use Rattle.wave_signals.specs.declared.view.Marker.{Marker}
use Rattle.wave_signals.specs.declared.view.View.{View}
use Rattle.wave_signals.specs.Signals.{line, identifier, bit_change, number_change, text_change, level_text}
use Rattle.wave_signals.specs.Signals.{free_change}
use Rattle.wave_signals.specs.Wave.{time, all_counts, marked}
use Rattle.wave_traffic.specs.declared.counts.Counts.{Counts}

-- ---- signals

-- the name of a signal, behind its identifier
abbrev pub named : Signal → List ℕ → List ℕ
named signal name = identifier signal ++ (codes " " ++ (name ++ line (codes " $end")))

-- its values are texts
abbrev pub text_variable : Signal → List ℕ → List ℕ
text_variable signal name = codes "$var string 1 " ++ named signal name

-- its values are numbers of so many bits
abbrev pub number_variable : ℕ → Signal → List ℕ → List ℕ
number_variable width signal name = codes "$var wire " ++ (decimal width ++ (codes " " ++ named signal name))

-- whether a tag is busy
abbrev pub tag_variable : ℕ → ℕ → List ℕ
tag_variable port tag = codes "$var wire 1 " ++ named (signals.Busy port tag) (codes "busy" ++ decimal tag)

-- ---- scopes

abbrev pub scope_begin : List ℕ → ℕ → List ℕ
scope_begin kind index = codes "$scope module " ++ (kind ++ (decimal index ++ line (codes " $end")))

abbrev pub scope_end : List ℕ
scope_end = line (codes "$upscope $end")

abbrev pub port_values : ℕ → List ℕ
port_values port =
    text_variable (signals.PortEvent port) (codes "event") ++
    (number_variable 8 (signals.PortTag port) (codes "tag [7:0]")
    ++ (number_variable 64 (signals.Address port) (codes "address [63:0]")
    ++ number_variable 16 (signals.Outstanding port) (codes "outstanding [15:0]")))

abbrev pub tag_variables : ℕ → ℕ → List ℕ
tag_variables tags port = flat_map (tag_variable port) (range_with_len 0 tags)

abbrev pub port_scope : ℕ → ℕ → List ℕ
port_scope tags port = scope_begin (codes "port") port ++ (port_values port ++ (tag_variables tags port ++ scope_end))

abbrev pub port_scopes : ℕ → ℕ → List ℕ
port_scopes tags ports = flat_map (port_scope tags) (range_with_len 0 ports)

abbrev pub bank_values : ℕ → List ℕ
bank_values bank =
    text_variable (signals.BankEvent bank) (codes "event") ++
    (number_variable 32 (signals.Number bank) (codes "number [31:0]")
    ++ (number_variable 8 (signals.Requester bank) (codes "port [7:0]")
    ++ (number_variable 8 (signals.BankTag bank) (codes "tag [7:0]")
    ++ (number_variable 32 (signals.Block bank) (codes "block [31:0]")
    ++ number_variable 16 (signals.Register bank) (codes "register [15:0]")))))

-- how many registers of each level are held
abbrev pub register_values : ℕ → List ℕ
register_values bank =
    number_variable 16 (signals.InUse levels.One bank) (codes "level1_registers [15:0]")
    ++ number_variable 16 (signals.InUse levels.Two bank) (codes "level2_registers [15:0]")

-- how many blocks go between the levels, and how many lines of each level are dirty
abbrev pub traffic_values : ℕ → List ℕ
traffic_values bank =
    number_variable 16 (signals.Asked bank) (codes "asked [15:0]")
    ++ (number_variable 16 (signals.Supplied bank) (codes "supplied [15:0]")
    ++ (number_variable 32 (signals.Dirty levels.One bank) (codes "level1_dirty [31:0]")
    ++ number_variable 32 (signals.Dirty levels.Two bank) (codes "level2_dirty [31:0]")))

-- the block that a register holds
abbrev pub held_variable : Level → ℕ → ℕ → List ℕ
held_variable level bank register =
    codes "$var wire 32 "
    ++ named (signals.HeldBlock level bank register) (level_text level
    ++ (codes "_register" ++ (decimal register ++ codes " [31:0]")))

-- how many targets wait in it
abbrev pub targets_variable : Level → ℕ → ℕ → List ℕ
targets_variable level bank register =
    codes "$var wire 16 "
    ++ named (signals.Targets level bank register) (level_text level
    ++ (codes "_targets" ++ (decimal register ++ codes " [15:0]")))

abbrev pub register_variable : Level → ℕ → ℕ → List ℕ
register_variable level bank register = held_variable level bank register ++ targets_variable level bank register

abbrev pub register_variables : ℕ → Level → ℕ → List ℕ
register_variables registers level bank = flat_map (register_variable level bank) (range_with_len 0 registers)

abbrev pub bank_scope : View → ℕ → List ℕ
bank_scope view bank =
    scope_begin (codes "bank") bank ++ (bank_values bank ++ (register_values bank ++ (traffic_values bank
    ++ (register_variables view.level1_registers levels.One bank
    ++ (register_variables view.level2_registers levels.Two bank ++ scope_end)))))

abbrev pub bank_scopes : View → ℕ → List ℕ
bank_scopes view banks = flat_map (bank_scope view) (range_with_len 0 banks)

-- the time of each record, where a map tells times
abbrev pub time_variable : Bool → List ℕ
time_variable true = text_variable signals.Time (codes "time")
time_variable false = []

-- the fault that the verdict names, and what broke first
abbrev pub mark_values : List ℕ
mark_values =
    number_variable 1 (signals.Fault names.ByVerdict) (codes "fault")
    ++ (text_variable (signals.Rule names.ByVerdict) (codes "rule")
    ++ (number_variable 1 (signals.Fault names.First) (codes "first_fault")
    ++ text_variable (signals.Rule names.First) (codes "first_rule")))

abbrev pub scopes : Bool → View → ℕ → ℕ → List ℕ
scopes times view ports banks =
    line (codes "$scope module score $end") ++ (time_variable times
    ++ (mark_values ++ (port_scopes view.tags ports ++ (bank_scopes view banks ++ scope_end))))

-- ---- the first values: no time, no word, no tag is busy, no register is held, no block goes between the levels, no
-- line is dirty, and there is no fault where it is not before

abbrev pub time_start : Bool → List ℕ
time_start true = text_change [] signals.Time
time_start false = []

abbrev pub tag_start : ℕ → ℕ → List ℕ
tag_start port tag = bit_change false (signals.Busy port tag)

abbrev pub tag_starts : ℕ → ℕ → List ℕ
tag_starts tags port = flat_map (tag_start port) (range_with_len 0 tags)

abbrev pub port_start : ℕ → ℕ → List ℕ
port_start tags port = text_change [] (signals.PortEvent port)
    ++ (number_change 0 (signals.Outstanding port) ++ tag_starts tags port)

abbrev pub port_starts : ℕ → ℕ → List ℕ
port_starts tags ports = flat_map (port_start tags) (range_with_len 0 ports)

abbrev pub register_starts : ℕ → Level → ℕ → List ℕ
register_starts registers level bank = flat_map (free_change level bank) (range_with_len 0 registers)

abbrev pub no_counts : Counts
no_counts = record { asked = 0; supplied = 0; dirty1 = 0; dirty2 = 0 }

abbrev pub bank_start : View → ℕ → List ℕ
bank_start view bank =
    text_change [] (signals.BankEvent bank) ++ (number_change 0 (signals.InUse levels.One bank)
    ++ (number_change 0 (signals.InUse levels.Two bank) ++ (all_counts bank no_counts
    ++ (register_starts view.level1_registers levels.One bank
    ++ register_starts view.level2_registers levels.Two bank))))

abbrev pub bank_starts : View → ℕ → List ℕ
bank_starts view banks = flat_map (bank_start view) (range_with_len 0 banks)

abbrev pub unmarked : Named → List ℕ
unmarked which = bit_change false (signals.Fault which) ++ text_change [] (signals.Rule which)

-- a mark, where the record that is marked is before the first one that is shown
abbrev pub mark_start : Named → Option Marker → ℕ → List ℕ
mark_start which (Some m) from = if nat_lt m.place from then marked which m.why else unmarked which
mark_start which None from = unmarked which

-- A wave with times begins at time 0.
abbrev pub start_time : Bool → ℕ → List ℕ
start_time true from = time 0 []
start_time false from = time from (codes "0")

abbrev pub start : Bool → View → ℕ → ℕ → List ℕ
start times view ports banks =
    start_time times view.from ++ (line (codes "$dumpvars")
    ++ (time_start times ++ (mark_start names.ByVerdict view.marker view.from
    ++ (mark_start names.First view.first view.from
    ++ (port_starts view.tags ports ++ (bank_starts view banks ++ line (codes "$end")))))))

-- what a time counts: picoseconds in a wave with times, else tenths of a nanosecond
abbrev pub timescale : Bool → List ℕ
timescale true = codes "1 ps"
timescale false = codes "100 ps"

abbrev pub head_text : Bool → View → ℕ → ℕ → List ℕ
head_text times view ports banks =
    codes "$timescale " ++ (timescale times ++ (line (codes " $end") ++ (scopes times view ports banks
    ++ (line (codes "$enddefinitions $end") ++ start times view ports banks))))
