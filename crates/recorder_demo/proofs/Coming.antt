-- A port's log grows by a request and by the fence.
use Rattle.std.proofs.Common.{◌≡◌, ℕ, ◌+◌, ◌%◌, ◌<◌, ◌≤◌, List, [], ◌∷◌, ◌++◌, replicate, cond, refl, sym, ap, subst}
use Rattle.std.proofs.Common.{◌∙◌, arith, length-append}
use Rattle.std.proofs.lemmas.List.{map_push}
use Rattle.std.proofs.lemmas.List.Elements.{filter-append}
use Rattle.std.proofs.lemmas.List.FromFn.{map-range_with_len_more}
use Rattle.std.proofs.lemmas.List.Sums.{sum_by-append}
use Rattle.lf_rules.specs.declared.shape.Shape.{Shape}
use Rattle.lf_rules.specs.declared.event.Event.{Event}
use Rattle.lf_rules.specs.declared.event.Event.TheVariants.{Fence}
use Rattle.lf_rules.specs.declared.event.Op.{Op}
use Rattle.lf_recorder.specs.Desk.{SeatView, after_record}
use Rattle.recorder_demo.specs.declared.port.Port.{Port}
use Rattle.recorder_demo.specs.Demo.{op_of, block_of, issue_of, request_of, is_issue, is_reply, events_of, HasCome}
use Rattle.recorder_demo.specs.Demo.{IsPortLog}
use Rattle.recorder_demo.specs.Threads.{Counts}

come_issue : (shape : Shape) (port issued replied : ℕ) (events : List Event) → HasCome shape port issued replied events
    → HasCome shape port (issued + 1) replied (events ++ request_of shape port issued ∷ [])
come_issue shape port issued replied events h = record {
  issues =
      filter-append is_issue events (request_of shape port issued ∷ [])
      ∙ (ap (λ es. es ++ request_of shape port issued ∷ []) h.issues
      ∙ sym (map-range_with_len_more (request_of shape port) 0 issued issued (omega arith)));
  replies = sum_by-append (λ e. cond (is_reply e) 1 0) events (request_of shape port issued ∷ [])
      ∙ (let was = h.replies in omega arith);
  count = length-append events (request_of shape port issued ∷ []) ∙ (let was = h.count in omega arith);
}

-- a request as it is made is the port's request of its number
pub request_made : (shape : Shape) (port i : ℕ) (op : Op) (tag block : ℕ) (bytes : List ℕ) → op ≡ op_of i →
    tag ≡ i % shape.tags → block ≡ block_of shape port i → bytes ≡ replicate 8 i
    → issue_of shape op tag block bytes ≡ request_of shape port i
request_made shape port i op tag block bytes is_op is_tag is_block is_bytes =
    rw (is_op, is_tag, is_block, is_bytes) refl

-- the events of a seat with one more record
more_events : (seat : SeatView) (bank number : ℕ) (event : Event) →
    events_of (after_record seat bank number event).records ≡ events_of seat.records ++ event ∷ []
more_events seat bank number event = map_push (λ r. r.event) seat.records
    (record { log = seat.log; bank = bank; number = number; event = event })

pub counts_issue : (shape : Shape) (port port' : Port) (seat seat' : SeatView) (bank number : ℕ) (event : Event) →
    Counts shape port seat → port.issued < 64
    → event ≡ request_of shape port.number port.issued → seat' ≡ after_record seat bank number event
    → port'.number ≡ port.number → port'.issued ≡ port.issued + 1 → port'.replied ≡ port.replied →
    Counts shape port' seat'
counts_issue shape port port' seat seat' bank number event h few is grown same issued replied =
    let log : seat'.log ≡ seat.log = ap (λ (s : SeatView). s.log) grown in
    let events : events_of seat'.records ≡ events_of seat.records ++ request_of shape seat.log port.issued ∷ [] =
    ap (λ (s : SeatView). events_of s.records) grown
    ∙ (more_events seat bank number event ∙ ap (λ e. events_of seat.records ++ e ∷ [])
    (is ∙ ap (λ n. request_of shape n port.issued) h.number)) in record {
      number = same ∙ (h.number ∙ sym log);
      few = omega (arith, issued);
      owed = let was = h.owed in omega (arith, issued, replied);
      come = rw (log, events, issued, replied) (come_issue shape seat.log port.issued port.replied
          (events_of seat.records) h.come);
    }

pub whole_log : (shape : Shape) (port : Port) (seat seat' : SeatView) (bank number : ℕ) → Counts shape port seat →
    64 ≤ port.replied
    → seat' ≡ after_record seat bank number Fence → IsPortLog shape seat'.log seat'.records
whole_log shape port seat seat' bank number h done grown =
    let log : seat'.log ≡ seat.log = ap (λ (s : SeatView). s.log) grown in
    let replied : port.replied ≡ 64 = (let few = h.few in let owed = h.owed in omega arith) in
    let issued : port.issued ≡ 64 = (let few = h.few in let owed = h.owed in omega arith) in record {
      events = events_of seat.records;
      all_answered = rw log (subst (λ (n : ℕ × ℕ). HasCome shape seat.log n.0 n.1 (events_of seat.records))
          (λ i. (issued i, replied i)) h.come);
      fence_last = ap (λ (s : SeatView). events_of s.records) grown ∙ more_events seat bank number Fence;
    }
