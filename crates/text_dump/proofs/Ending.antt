-- How a dump ends.
use Rattle.std.proofs.Common.{◌≡◌, ◌≢◌, ℕ, zero, suc, ◌<◌, ◌≤◌, List, [], take, Option, Ok, Err, refl, sym, ap, subst}
use Rattle.std.proofs.Common.{arith, inl, inr, ◌∙◌}
use Rattle.std.specs.Prelude.{◌↔◌}
use Rattle.lf_codec.specs.declared.fault.CodecFault.{CodecFault}
use Rattle.lf_codec.specs.Laws.{AreBytes}
use Rattle.lf_codec.specs.Reading.{trace_fault}
use Rattle.run_stream.specs.Account.{Account, WentOut}
use Rattle.run_stream.specs.Gathered.{IsAllRead, GoesOnToLast}
use Rattle.text_dump.specs.declared.fault.DumpFault.{DumpFault}
use Rattle.text_dump.specs.declared.fault.DumpFault.TheVariants.{Read, Turns, Memory, Write}
use Rattle.text_dump.specs.Lines.{closing_of}
use Rattle.text_dump.specs.Dump.{HasFault, IsStopped, IsDumpedBy, piece_len, stop_line, not_read_line, no_memory_line}
use Rattle.text_dump.specs.Dump.{IsCutOff, Closes}
use Rattle.text_dump.proofs.Telling.{out_on, stops_at_end, cut_at_end, line_so_far, line_in_part, cut_so_far}
use Rattle.text_dump.proofs.Telling.{cut_in_part}

none_failed : (n : ℕ) → ¬ (0 < n) → n ≡ 0
none_failed zero not = refl
none_failed (suc n) not = absurd (not (omega arith))

pub not_some : (n : ℕ) → n ≡ 0 → ¬ (0 < n)
not_some n none some = absurd (omega (arith, none, some))

-- ---- what a dump stopped by

-- the counts where a call stopped by this fault
pub record IsStopCount (c x : Account) (turns : ℕ) (fault : DumpFault) : Type 0 where
  pub reads : c.calls ≤ turns
  pub read : (fault ≡ Read) ↔ (0 < c.failures)
  pub turned : fault ≡ Turns → c.calls ≡ turns
  pub write : (fault ≡ Write) ↔ (0 < x.failures)

pub dumped_stopped : (lines : List ℕ → List ℕ) (a c w x : Account) (turns : ℕ) (last : DumpFault → List ℕ)
    (fault : DumpFault) → IsStopCount c x turns fault
    → IsStopped lines a c w x (last fault) fault → IsDumpedBy lines a c w x turns last (Err fault)
dumped_stopped lines a c w x turns last fault count stopped = record {
  reads = count.reads;
  whole = tt;
  stopped = stopped;
  read = (
    λ is.
        let same : fault ≡ Read = cc in (
          count.read.0 same,
          none_failed x.failures (λ some. let bad = count.write.1 some in let both : Write ≡ Read =
              sym bad ∙ same in cc),
        ),
    λ some. ap Err (count.read.1 some.0),
  );
  turns_ran_out = λ is. count.turned (let same : fault ≡ Turns = cc in same);
  write = (λ is. count.write.0 (let same : fault ≡ Write = cc in same), λ some. ap Err (count.write.1 some));
}

-- after a reading that did not fail
module _ (lines : List ℕ → List ℕ) (a c w x : Account) (turns : ℕ) (last : DumpFault → List ℕ)
    (reads : c.calls ≤ turns) (fine : ¬ (0 < c.failures))
    (bytes : List ℕ) (all : IsAllRead HasFault piece_len a c bytes) (told : WentOut w x (lines bytes)) where
  -- Memory ran out behind the lines.
  pub dumped_without_memory : ¬ (0 < x.failures) → last Memory ≡ [] → IsDumpedBy lines a c w x turns last (Err Memory)
  dumped_without_memory written none =
      dumped_stopped lines a c w x turns last Memory
      (record {
        reads = reads;
        read = (λ bad. absurd cc, λ some. absurd (fine some));
        turned = λ bad. absurd cc;
        write = (λ bad. absurd cc, λ some. absurd (written some));
      })
      (subst (λ (l : List ℕ). IsStopped lines a c w x l Memory) (sym none) (stops_at_end lines a c w x bytes all told))

  -- The writer failed behind the lines.
  pub dumped_without_closing : (y : Account) (n : ℕ) → 0 < y.failures → WentOut x y (take n (closing_of bytes)) →
      IsDumpedBy lines a c w y turns last (Err Write)
  dumped_without_closing y n failed out =
      dumped_stopped lines a c w y turns last Write
      (record {
        reads = reads;
        read = (λ bad. absurd cc, λ some. absurd (fine some));
        turned = λ bad. absurd cc;
        write = (λ _. failed, λ _. refl);
      })
      (cut_at_end lines a c w x y bytes n all told out)

  pub dumped_whole : (y : Account) (fault : Option CodecFault) → AreBytes bytes → GoesOnToLast a.pieces c.pieces →
      ¬ (0 < y.failures) → fault ≡ trace_fault bytes → WentOut x y (closing_of bytes)
      → IsDumpedBy lines a c w y turns last (Ok fault)
  dumped_whole y fault are_bytes once written is out = record {
    reads = reads;
    whole = record {
      bytes = bytes;
      are_bytes = are_bytes;
      all = all;
      once = once;
      is_fault = is;
      out =
          out_on w x y (lines bytes) (closing_of bytes) told out;
    };
    stopped = tt;
    read = (λ bad. absurd cc, λ some. absurd (fine some.0));
    turns_ran_out = λ bad. absurd cc;
    write = (λ bad. absurd cc, λ some. absurd (written some));
  }

-- ---- the last line

closes_at_stop : (fault : DumpFault) → fault ≢ Write → (bytes : List ℕ) → Closes (stop_line fault) bytes
closes_at_stop Read other bytes = inr (inl refl)
closes_at_stop Turns other bytes = inr (inl refl)
closes_at_stop Memory other bytes = inr (inr refl)
closes_at_stop Write other bytes = absurd (other refl)

line_out : (lines : List ℕ → List ℕ) (a c w x y : Account) (fault : DumpFault) → fault ≢ Write →
    IsStopped lines a c w x [] fault → WentOut x y (stop_line fault) → IsStopped lines a c w y (stop_line fault) fault
line_out lines a c w x y Read other stopped out = line_so_far w x y not_read_line out lines a c stopped
line_out lines a c w x y Turns other stopped out = line_so_far w x y not_read_line out lines a c stopped
line_out lines a c w x y Memory other stopped out = line_in_part w x y no_memory_line out lines a c stopped
line_out lines a c w x y Write other stopped out = absurd (other refl)

line_cut : (lines : List ℕ → List ℕ) (a c w x y : Account) (fault : DumpFault) (n : ℕ) → fault ≢ Write →
    IsStopped lines a c w x [] fault → WentOut x y (take n (stop_line fault)) → IsCutOff lines a c w y
line_cut lines a c w x y Read n other stopped out = cut_so_far lines a c w x y not_read_line n out stopped
    (closes_at_stop Read other)
line_cut lines a c w x y Turns n other stopped out = cut_so_far lines a c w x y not_read_line n out stopped
    (closes_at_stop Turns other)
line_cut lines a c w x y Memory n other stopped out = cut_in_part lines a c w x y no_memory_line n out stopped
    (closes_at_stop Memory other)
line_cut lines a c w x y Write n other stopped out = absurd (other refl)

module _ (lines : List ℕ → List ℕ) (a c w x y : Account) (turns : ℕ) (fault : DumpFault)
    (d : IsDumpedBy lines a c w x turns (λ _. []) (Err fault)) (other : fault ≢ Write) where
  -- The line went out.
  pub dumped_with_line : ¬ (0 < y.failures) → WentOut x y (stop_line fault) →
      IsDumpedBy lines a c w y turns stop_line (Err fault)
  dumped_with_line written out =
      dumped_stopped lines a c w y turns stop_line fault
      (record {
        reads = d.reads;
        read = (
          λ is. (d.read.0 (ap Err is)).0,
          λ some. let is =
              d.read.1 (
                some,
                none_failed x.failures (λ bad. let wrong = d.write.1 bad in let same : fault ≡ Write =
                    cc in other same),
              ) in let same : fault ≡ Read = cc in same,
        );
        turned = λ is. d.turns_ran_out (ap Err is);
        write = (λ is. absurd (other is), λ some. absurd (written some));
      })
      (line_out lines a c w x y fault other d.stopped out)

  -- The line was cut off.
  pub dumped_without_line : (n : ℕ) → 0 < y.failures → WentOut x y (take n (stop_line fault)) →
      IsDumpedBy lines a c w y turns stop_line (Err Write)
  dumped_without_line n failed out = record {
    reads = d.reads;
    whole = tt;
    stopped = line_cut lines a c w x y fault n other d.stopped out;
    read = (
      λ bad. absurd cc,
      λ some. absurd (let none = some.1 in let wrong : 0 < 0 =
          subst (λ (k : ℕ). 0 < k) none failed in omega (arith, wrong)),
    );
    turns_ran_out = λ bad. absurd cc;
    write = (λ _. failed, λ _. refl);
  }

-- A dump that wrote all, or that a writer cut off, has no last line.
pub no_last_line : (lines : List ℕ → List ℕ) (a c w x : Account) (turns : ℕ) (fault : Option CodecFault) →
    IsDumpedBy lines a c w x turns (λ _. []) (Ok fault) → IsDumpedBy lines a c w x turns stop_line (Ok fault)
no_last_line lines a c w x turns fault d = record {
  reads = d.reads;
  whole = d.whole;
  stopped = tt;
  read =
      d.read;
  turns_ran_out = d.turns_ran_out;
  write = d.write;
}

pub cut_off : (lines : List ℕ → List ℕ) (a c w x : Account) (turns : ℕ) →
    IsDumpedBy lines a c w x turns (λ _. []) (Err Write) → IsDumpedBy lines a c w x turns stop_line (Err Write)
cut_off lines a c w x turns d = record {
  reads = d.reads;
  whole = tt;
  stopped = d.stopped;
  read =
      d.read;
  turns_ran_out = d.turns_ran_out;
  write = d.write;
}
