-- What a view of a drawing comes to, from what the drawer did.
use Rattle.std.proofs.Common.{inl, ◌≡◌, ◌≢◌, ℕ, ◌<◌, ◌≤◌, List, Option, Result, Ok, Err, sym, ap, subst, arith}
use Rattle.std.specs.Prelude.{IsErrOf, ◌↔◌}
use Rattle.run_stream.specs.Account.{Account, WentOut}
use Rattle.run_stream.specs.Gathered.{IsAllRead, EndsOnce}
use Rattle.run_stream.proofs.GatheringLemmas.{goes_from}
use Rattle.lf_codec.specs.declared.fault.CodecFault.{CodecFault}
use Rattle.lf_codec.specs.Laws.{AreBytes}
use Rattle.text_dump.specs.Dump.{HasFault, piece_len}
use Rattle.wave_draw.specs.declared.drawer.Drawer.{Drawer}
use Rattle.wave_draw.specs.declared.drawing.Drawing.{Drawing}
use Rattle.wave_draw.specs.declared.fault.ViewFault.{ViewFault}
use Rattle.wave_draw.specs.declared.fault.ViewFault.TheVariants.{Read, Turns, Memory, Write, Order}
use Rattle.wave_draw.specs.Viewing.{wave_of, Closes, IsStopped, IsViewed, Shows}
use Rattle.wave_draw.proofs.Telling.{nothing_viewed}

-- ---- faults

-- a piece is not why a read failed or the turns were used up
pub never_read : (drawing : Drawing) (x y : Account) (drawer : Drawer) (bytes piece : List ℕ) (fault : ViewFault) →
    Shows drawing x y drawer bytes piece (Err fault) → fault ≢ Read
never_read drawing x y drawer bytes piece Read h is = h
never_read drawing x y drawer bytes piece Turns h is = h
never_read drawing x y drawer bytes piece Memory h is = absurd cc
never_read drawing x y drawer bytes piece Write h is = absurd cc
never_read drawing x y drawer bytes piece Order h is = h

pub never_turns : (drawing : Drawing) (x y : Account) (drawer : Drawer) (bytes piece : List ℕ) (fault : ViewFault) →
    Shows drawing x y drawer bytes piece (Err fault) → fault ≢ Turns
never_turns drawing x y drawer bytes piece Read h is = h
never_turns drawing x y drawer bytes piece Turns h is = h
never_turns drawing x y drawer bytes piece Memory h is = absurd cc
never_turns drawing x y drawer bytes piece Write h is = absurd cc
never_turns drawing x y drawer bytes piece Order h is = h

-- ---- views

-- an error is one whatever a success is
same_err : {T U : Type 0} (e f : ViewFault) → IsErrOf {T = T} (Err e) f → IsErrOf {T = U} (Err e) f
same_err e f is =
    let inner : e ≡ f = cc in ap (λ (k : ViewFault). Err k) inner

module _ (drawing other : Drawing) (same : other ≡ drawing) (old new writer writer' : Account) (turns : ℕ)
    (reads : new.calls ≤ turns) (once : EndsOnce old.pieces new.pieces) where
  pub viewed_until : (fault : ViewFault) → IsStopped other old new writer writer' fault →
      (IsErrOf {T = Unit {0}} (Err fault) Read ↔ (0 < new.failures)) →
      (IsErrOf {T = Unit {0}} (Err fault) Turns → new.calls ≡ turns) →
      (IsErrOf {T = Unit {0}} (Err fault) Write ↔ (0 < writer'.failures)) →
      IsViewed drawing old new writer writer' turns (Err fault)
  viewed_until fault stopped read ran_out write = record {
    reads = reads;
    once = once;
    whole = tt;
    stopped = subst (λ (d : Drawing). IsStopped d old new writer writer' fault) same stopped;
    read = (λ is. read.0 (same_err fault Read is), λ some. same_err fault Read (read.1 some));
    turns_ran_out = λ is. ran_out (same_err fault Turns is);
    write = (λ is. write.0 (same_err fault Write is), λ some. same_err fault Write (write.1 some));
  }

-- no room for a piece
pub no_room : (drawing : Drawing) (a w : Account) (turns : ℕ) → a.calls ≡ 0 → a.failures ≡ 0 → w.failures ≡ 0 →
    IsViewed drawing a a w w turns (Err Memory)
no_room drawing a w turns calls failures writes = record {
  reads = omega (arith, calls);
  once = inl (goes_from a.pieces);
  whole = tt;
  stopped = nothing_viewed drawing a w;
  read = (λ is. absurd cc, λ some. absurd (omega (arith, some, failures)));
  turns_ran_out = λ is. absurd cc;
  write = (λ is. absurd cc, λ some. absurd (omega (arith, some, writes)));
}

-- ---- to the end

module _ (drawing : Drawing) (old new writer writer' : Account) (turns : ℕ) (reads : new.calls ≤ turns)
    (once : EndsOnce old.pieces new.pieces)
    (read : IsErrOf {T = Unit {0}} (Ok tt) Read ↔ (0 < new.failures))
    (write : IsErrOf {T = Unit {0}} (Ok tt) Write ↔ (0 < writer'.failures)) (bytes : List ℕ)
    (are_bytes : AreBytes bytes) (all : IsAllRead HasFault piece_len old new bytes)
    (out : WentOut writer writer' (wave_of drawing bytes)) where
  no_read : ¬ (0 < new.failures)
  no_read some = let bad : IsErrOf {T = Unit {0}} (Ok tt) Read = read.1 some in cc

  no_write : ¬ (0 < writer'.failures)
  no_write some = let bad : IsErrOf {T = Unit {0}} (Ok tt) Write = write.1 some in cc

  pub viewed_to_end : (answer : Result (Option CodecFault) ViewFault) → Closes drawing bytes answer →
      IsViewed drawing old new writer writer' turns answer
  viewed_to_end (Ok fault) closes = record {
    reads = reads;
    once = once;
    whole = record {
      bytes = bytes;
      are_bytes = are_bytes;
      all = all;
      is_fault = closes.0;
      each = closes.1;
      out = out;
    };
    stopped = tt;
    read = (λ is. absurd cc, λ some. absurd (no_read some));
    turns_ran_out = λ is. absurd cc;
    write = (λ is. absurd cc, λ some. absurd (no_write some));
  }
  viewed_to_end (Err fault) closes =
      let order = closes.0 in
      record {
        reads = reads;
        once = once;
        whole = tt;
        stopped = subst (IsStopped drawing old new writer writer') (sym order) (record {
          bytes = bytes;
          are_bytes = are_bytes;
          all = all;
          no_fault = closes.1;
          other = closes.2;
          out = out;
        });
        read = (λ is. absurd cc, λ some. absurd (no_read some));
        turns_ran_out = λ is. absurd cc;
        write = (λ is. absurd cc, λ some. absurd (no_write some));
      }
