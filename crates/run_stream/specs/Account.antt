-- What the calls of a reader or a writer came to, and what one more call does to that.
use Rattle.std.specs.Prelude.{◌≡◌, ◌≢◌, ℕ, zero, suc, ◌+◌, ◌-◌, ◌^◌, min, List, [], ◌∷◌, ◌++◌, take}
use Rattle.std.specs.Prelude.{Option, Result, Ok, Err}
use Rattle.std.specs.List.{concat}
use Rattle.std.specs.Io.KnownBytes.{Appends, ReadConsumes}
use Rattle.std.specs.IoError.{error_kind}
use Rattle.std.specs.declared.io.Error.{Error}
use Rattle.std.specs.declared.io.ErrorKind.TheVariants.{Interrupted}

-- What the calls came to so far.
pub record Account : Type 0 where
  pub calls : ℕ
  -- those of the calls that failed
  pub failures : ℕ
  -- what each call that succeeded moved: the bytes that a read put into its buffer, those that a write took
  pub pieces : List (List ℕ)
  -- what is left of the reader, or what the writer holds, where that is known
  pub known : Option (List ℕ)

-- a count after one more, which stays at the last number
abbrev pub one_more : ℕ → ℕ
one_more n = min (n + 1) (2 ^ 64 - 1)

-- A read fails by an error, but not where it was interrupted.
abbrev pub CountsRead : ℕ → ℕ → Result ℕ Error → Type 0
CountsRead old new (Ok n) = new ≡ old
CountsRead old new (Err e) =
    (error_kind e ≡ Interrupted → new ≡ old) × (error_kind e ≢ Interrupted → new ≡ one_more old)

-- A write fails by an error, and where it took nothing.
abbrev pub CountsWrite : ℕ → ℕ → Result ℕ Error → Type 0
CountsWrite old new (Ok zero) = new ≡ one_more old
CountsWrite old new (Ok (suc n)) = new ≡ old
CountsWrite old new (Err e) = new ≡ one_more old

abbrev pub CountsFlush : ℕ → ℕ → Result (Unit {0}) Error → Type 0
CountsFlush old new (Ok u) = new ≡ old
CountsFlush old new (Err e) = new ≡ one_more old

-- A call that succeeded moved the first n bytes of the buffer, and one that failed moved none.
abbrev pub Moves : List (List ℕ) → List (List ℕ) → Result ℕ Error → List ℕ → Type 0
Moves old new (Ok n) buffer = new ≡ old ++ take n buffer ∷ []
Moves old new (Err e) buffer = new ≡ old

-- One read was made, which left this in the buffer.
pub record IsRead (old new : Account) (result : Result ℕ Error) (buffer : List ℕ) : Type 0 where
  pub calls : new.calls ≡ one_more old.calls
  pub failures : CountsRead old.failures new.failures result
  pub pieces : Moves old.pieces new.pieces result buffer
  pub known : ReadConsumes old.known new.known result buffer

-- Writes between two moments took these bytes and no others.
pub record WentOut (old new : Account) (bytes : List ℕ) : Type 0 where
  pub taken : concat new.pieces ≡ concat old.pieces ++ bytes
  pub known : Appends old.known new.known bytes
