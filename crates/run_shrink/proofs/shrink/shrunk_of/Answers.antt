use Rattle.std.proofs.Common.{◌≡◌, ℕ, List, rules, sym, subst}
use Rattle.std.specs.List.{AllByRecursion}
use Rattle.lf_rules.specs.declared.event.Record.{Record}
use Rattle.lf_rules.specs.Fits.{Fits}
use Rattle.lf_codec.specs.Laws.{IsSomeTrace}
use Rattle.lf_codec.specs.Trace.{IsTrace}
use Rattle.run_shrink.proofs.Faults.{is_trace, records_are_fit}
use Rattle.run_shrink.proofs.shrink.shrunk_of.Goals as goal

pub trace_in-requires : goal.trace_in-requires
trace_in-requires g c =
    let same : c.deref.result.now ≡ c.args.bytes.items = search rules in
    subst (λ (bytes : List ℕ). IsSomeTrace bytes) (sym same)
    (is_trace c.args.shape.now c.args.bytes.items c.args.sought.first c.args.fault c.requires.has)

pub of-requires-clause-fit : goal.of-requires-clause-fit
of-requires-clause-fit g c =
    let shape = c.args.shape.now in
    let bytes = c.args.bytes.items in
    let header = c.in_ok-header.header in
    let memory = c.in_ok-header.memory.items in
    let records = c.in_ok-header.records.items in
    let same : c.deref-2.result.now ≡ records = search rules in
    let trace : IsTrace bytes header memory records = search rules in
    subst (λ (rs : List Record). AllByRecursion (Fits shape) rs) (sym same)
    (records_are_fit shape bytes c.args.sought.first c.args.fault c.requires.has header memory records trace)
