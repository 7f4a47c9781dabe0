-- What a clause reads of a counted reader or writer.
use Rattle.std.specs.Prelude.{ℕ, List, Option}
use Rattle.run_stream.specs.declared.counted.Counted.{Counted}
use Rattle.run_stream.specs.Account.{Account}

-- the calls made so far
abbrev pub calls_of : {T : Type 0} → Counted T → ℕ
calls_of c = c.calls

-- those of them that failed
abbrev pub failures_of : {T : Type 0} → Counted T → ℕ
failures_of c = c.failures

-- what each call that succeeded moved: the bytes that a read put into its buffer, those that a write took
abbrev pub pieces_of : {T : Type 0} → Counted T → List (List ℕ)
pieces_of c = c.pieces.list

abbrev pub inner_of : {T : Type 0} → Counted T → T
inner_of c = c.inner

-- all of that, with what is known of the bytes of the inner value
abbrev pub account_of : {T : Type 0} → (T → Option (List ℕ)) → Counted T → Account
account_of known c =
    record { calls = c.calls; failures = c.failures; pieces = c.pieces.list; known = known c.inner }
