-- What registers say of the requests that they tell of.
use Rattle.std.proofs.Common.{◌≡◌, ℕ, List, ◌∙◌}
use Rattle.lf_rules.specs.declared.shape.Shape.{Shape}
use Rattle.lf_rules.specs.Registers.{Held, has_room, primary_clauses, merge_clauses}
use Rattle.lf_rules.specs.State.{Missed, Asked}
use Rattle.lf_rules.specs.Table.{destinations, destinations2, position, position2}
use Rattle.lf_mshr.specs.Alike.{AreAlike}
use Rattle.lf_mshr.specs.RegisterFile.{RegisterFile}
use Rattle.lf_mshr.specs.declared.level_one.Request1.{Request1}
use Rattle.lf_mshr.specs.declared.level_two.Request2.{Request2}
use Rattle.lf_mshr.proofs.Alike.{primary_clauses-alike, merge_clauses-alike, has_room-alike}
use Rattle.bank_events.specs.BankView.{IsFile1, IsFile2}
use Rattle.bank_events.specs.Targets.{IsTarget1, IsTarget2}

-- ---- level one

module _ (shape : Shape) (file : RegisterFile Request1) (of_shape : IsFile1 shape file) (missed : List (Held Missed))
    (alike : AreAlike (IsTarget1 shape) file.held missed) where
  pub primary_told : (block register d : ℕ)
      → primary_clauses file.organisation file.destinations file.held block d register
      ≡ primary_clauses shape.level1.organisation (destinations shape) missed block d register
  primary_told block register d =
      (λ i. primary_clauses (of_shape.organisation i) (of_shape.destinations i) file.held block d register)
      ∙ primary_clauses-alike (IsTarget1 shape) file.held missed alike shape.level1.organisation (destinations shape)
      block d register

  pub merge_told : (block register d at : ℕ)
      → merge_clauses file.organisation file.destinations (λ (r : Request1). r.position) file.held block d at register
      ≡ merge_clauses shape.level1.organisation (destinations shape) position missed block d at register
  merge_told block register d at =
      (λ i. merge_clauses (of_shape.organisation i) (of_shape.destinations i) (λ (r : Request1). r.position) file.held
      block d at register)
      ∙ merge_clauses-alike (IsTarget1 shape) file.held missed alike (λ (r : Request1). r.position) position
      (λ a b tells. tells.position) shape.level1.organisation
      (destinations shape) block d at register

  pub room_told : (block d at : ℕ)
      → has_room file.organisation file.destinations (λ (r : Request1). r.position) file.held block d at
      ≡ has_room shape.level1.organisation (destinations shape) position missed block d at
  room_told block d at =
      (λ i. has_room (of_shape.organisation i) (of_shape.destinations i) (λ (r : Request1). r.position) file.held
      block d at)
      ∙ has_room-alike (IsTarget1 shape) file.held missed alike (λ (r : Request1). r.position) position
      (λ a b tells. tells.position) shape.level1.organisation (destinations shape) block d at

-- ---- level two

module _ (shape : Shape) (file : RegisterFile Request2) (of_shape : IsFile2 shape file) (fetched : List (Held Asked))
    (alike : AreAlike (IsTarget2 shape) file.held fetched) where
  pub second_primary_told : (second register d : ℕ)
      → primary_clauses file.organisation file.destinations file.held second d register
      ≡ primary_clauses shape.level2.organisation (destinations2 shape) fetched second d register
  second_primary_told second register d =
      (λ i. primary_clauses (of_shape.organisation i) (of_shape.destinations i) file.held second d register)
      ∙ primary_clauses-alike (IsTarget2 shape) file.held fetched alike shape.level2.organisation
      (destinations2 shape) second d register

  pub second_merge_told : (second register d at : ℕ)
      → merge_clauses file.organisation file.destinations (λ (r : Request2). r.position) file.held second d at register
      ≡ merge_clauses shape.level2.organisation (destinations2 shape) (position2 shape) fetched second d at register
  second_merge_told second register d at =
      (λ i. merge_clauses (of_shape.organisation i) (of_shape.destinations i) (λ (r : Request2). r.position) file.held
      second d at register)
      ∙ merge_clauses-alike (IsTarget2 shape) file.held fetched alike (λ (r : Request2). r.position) (position2 shape)
      (λ a b tells. tells.position) shape.level2.organisation
      (destinations2 shape) second d at register

  pub second_room_told : (second d at : ℕ)
      → has_room file.organisation file.destinations (λ (r : Request2). r.position) file.held second d at
      ≡ has_room shape.level2.organisation
      (destinations2 shape) (position2 shape) fetched second d at
  second_room_told second d at =
      (λ i. has_room (of_shape.organisation i) (of_shape.destinations i) (λ (r : Request2). r.position) file.held
      second d at)
      ∙ has_room-alike (IsTarget2 shape) file.held fetched alike (λ (r : Request2). r.position) (position2 shape)
      (λ a b tells. tells.position) shape.level2.organisation
      (destinations2 shape) second d at
