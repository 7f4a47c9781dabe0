-- The targets by which the registers of a bank hold the requests that wait in them.
use Rattle.std.specs.Prelude.{◌≡◌, ℕ, ◌<◌, length, if◌then◌else◌}
use Rattle.lf_rules.specs.declared.shape.Shape.{Shape}
use Rattle.lf_rules.specs.Address.{FlatMemory, mask_of, place_of}
use Rattle.lf_rules.specs.Registers.{Held}
use Rattle.lf_rules.specs.State.{Request, Missed, Ready, Asked}
use Rattle.lf_rules.specs.Table.{destination, is_store, position, value_of}
use Rattle.lf_mshr.specs.declared.level_one.Request1.{Request1}
use Rattle.lf_mshr.specs.declared.level_two.Request2.{Request2}
pub use Rattle.bank_state.specs.Bytes.{IsNumberOf}

-- A level-one target has all of a request that its reply and its fill need: not what a store writes.
pub record IsTarget1 (shape : Shape) (target : Request1) (missed : Missed) : Type 0 where
  pub position : target.position ≡ position missed
  pub port : missed.port < shape.ports
  pub tag : missed.request.tag < shape.tags
  pub destination : target.destination ≡ destination shape missed.port missed.request.tag
  pub store : target.is_store ≡ is_store missed.request
  pub bytes : target.bytes.0 ≡ mask_of missed.request.offset missed.request.size
  pub size : length missed.value ≡ (if is_store missed.request then 0 else missed.request.size)
  pub value : IsNumberOf missed.value target.value

-- the target is one of some request
abbrev pub IsSomeTarget : Shape → Request1 → Type 0
IsSomeTarget shape target = (missed : Missed) × IsTarget1 shape target missed

-- the reply to a request that missed
abbrev pub reply_to : Missed → Ready
reply_to missed = record { port = missed.port; tag = missed.request.tag; value = missed.value }

-- A level-two target has the place of a block in its second-level block, and which level-one register asked for it.
pub record IsTarget2 (shape : Shape) (target : Request2) (asked : Asked) : Type 0 where
  pub position : target.position ≡ place_of shape asked.0
  pub destination : target.destination ≡ asked.1

-- what a level-one register holds of a port's request that misses now
abbrev pub miss_of : ℕ → ℕ → FlatMemory → Request → Held Missed
miss_of port register memory request =
    let missed : Missed = record { port = port; request = request; value = value_of memory request } in
    record { register = register; block = request.block; target = missed }
