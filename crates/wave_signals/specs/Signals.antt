-- The signals of a wave, and the lines of the file that give them a value.
use Rattle.std.specs.Prelude.{ℕ, Bool, true, false, List, [], ◌∷◌, ◌++◌, codes, nat_lt, if◌then◌else◌}
use Rattle.std.specs.Fmt.{decimal, digits}
use Rattle.wave_signals.specs.declared.registers.HeldRegister.{HeldRegister}
use Rattle.wave_signals.specs.declared.registers.Level.{Level}
use Rattle.wave_signals.specs.declared.registers.Level.TheVariants as levels
use Rattle.wave_signals.specs.declared.signal.Named.TheVariants as names
use Rattle.wave_signals.specs.declared.signal.Signal.{Signal}
use Rattle.wave_signals.specs.declared.signal.Signal.TheVariants as signals

abbrev pub of_port : ℕ → List ℕ → List ℕ
of_port port name = codes "p" ++ (decimal port ++ name)

abbrev pub of_bank : ℕ → List ℕ → List ℕ
of_bank bank name = codes "b" ++ (decimal bank ++ name)

abbrev pub level_text : Level → List ℕ
level_text levels.One = codes "level1"
level_text levels.Two = codes "level2"

abbrev pub block_letter : Level → List ℕ
block_letter levels.One = codes "h"
block_letter levels.Two = codes "k"

abbrev pub target_letter : Level → List ℕ
target_letter levels.One = codes "t"
target_letter levels.Two = codes "u"

-- the name of a signal within the file
abbrev pub identifier : Signal → List ℕ
identifier (signals.Fault names.ByVerdict) = codes "f"
identifier (signals.Fault names.First) = codes "ff"
identifier (signals.Rule names.ByVerdict) = codes "r"
identifier (signals.Rule names.First) = codes "fr"
identifier signals.Time = codes "t"
identifier (signals.PortEvent port) = of_port port (codes "e")
identifier (signals.PortTag port) = of_port port (codes "i")
identifier (signals.Address port) = of_port port (codes "a")
identifier (signals.Outstanding port) = of_port port (codes "o")
identifier (signals.Busy port tag) = of_port port (codes "t" ++ decimal tag)
identifier (signals.BankEvent bank) = of_bank bank (codes "e")
identifier (signals.Number bank) = of_bank bank (codes "n")
identifier (signals.Requester bank) = of_bank bank (codes "p")
identifier (signals.BankTag bank) = of_bank bank (codes "i")
identifier (signals.Block bank) = of_bank bank (codes "b")
identifier (signals.Register bank) = of_bank bank (codes "r")
identifier (signals.InUse levels.One bank) = of_bank bank (codes "x")
identifier (signals.InUse levels.Two bank) = of_bank bank (codes "y")
identifier (signals.Asked bank) = of_bank bank (codes "q")
identifier (signals.Supplied bank) = of_bank bank (codes "s")
identifier (signals.Dirty levels.One bank) = of_bank bank (codes "d")
identifier (signals.Dirty levels.Two bank) = of_bank bank (codes "w")
identifier (signals.HeldBlock level bank register) = of_bank bank (block_letter level ++ decimal register)
identifier (signals.Targets level bank register) = of_bank bank (target_letter level ++ decimal register)

-- a line of the file
abbrev pub line : List ℕ → List ℕ
line text = text ++ 10 ∷ []

-- ---- values

-- the signal is 1 or 0 from now on
abbrev pub bit_text : Bool → List ℕ
bit_text true = codes "1"
bit_text false = codes "0"

abbrev pub bit_change : Bool → Signal → List ℕ
bit_change up signal = bit_text up ++ line (identifier signal)

-- it is this number, which is written in binary
abbrev pub number_change : ℕ → Signal → List ℕ
number_change value signal = codes "b" ++ (digits 2 false value ++ (codes " " ++ line (identifier signal)))

-- it has no number from now on
abbrev pub absence_change : Signal → List ℕ
absence_change signal = codes "bz " ++ line (identifier signal)

-- it is this text, or none
abbrev pub text_change : List ℕ → Signal → List ℕ
text_change text signal = codes "s" ++ (text ++ (codes " " ++ line (identifier signal)))

-- a tag that has a signal is busy or free from now on
abbrev pub busy_change : ℕ → Bool → ℕ → ℕ → List ℕ
busy_change tags up port tag = if nat_lt tag tags then bit_change up (signals.Busy port tag) else []

-- ---- registers: of so many of a level, from register 0 on, each has signals of its own

-- a register holds a block from now on, for which so many targets wait
abbrev pub held_change : ℕ → Level → HeldRegister → List ℕ
held_change registers level h =
    if nat_lt h.register registers
    then number_change h.block (signals.HeldBlock level h.bank h.register)
    ++ number_change h.targets (signals.Targets level h.bank h.register)
    else []

-- it holds none from now on
abbrev pub free_change : Level → ℕ → ℕ → List ℕ
free_change level bank register = absence_change (signals.HeldBlock level bank register)
    ++ number_change 0 (signals.Targets level bank register)

abbrev pub freed_change : ℕ → Level → ℕ → ℕ → List ℕ
freed_change registers level bank register = if nat_lt register registers then free_change level bank register else []
