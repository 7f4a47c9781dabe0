use Rattle.std.proofs.Common.{◌+◌, ◌*◌, List, Option, ℕ, None, length, get_or, ap, ◌∙◌, arith}
use Rattle.std.proofs.lemmas.List.{get_or-replicate, length-replicate}
use Rattle.explain_history.proofs.requests.Requests.new.Goals as goal

pub returns : goal.returns
returns c = λ shape.
    let items = c.in_ok-seconds.ensures in
    record {
      len = ap length items ∙ length-replicate {A = Option ℕ} 65536 None;
      latest = λ port tag port_fits tag_fits.
          ap (λ (seconds : List (Option ℕ)). get_or seconds (port * 256 + tag) None) items
          ∙ get_or-replicate 65536 (port * 256 + tag) None None (omega (arith, port_fits, tag_fits));
    }
