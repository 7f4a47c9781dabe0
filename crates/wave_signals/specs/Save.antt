-- The file of signals that GTKWave opens beside a wave: a line of flags before each signal says how its values are
-- shown.
use Rattle.std.specs.Prelude.{ℕ, ◌-◌, max, List, [], ◌++◌, codes, flat_map, Option, Some, None}
use Rattle.std.specs.List.{range_with_len}
use Rattle.std.specs.Fmt.{decimal}
use Rattle.wave_order.specs.declared.clock.Clock.{Clock}
use Rattle.wave_signals.specs.declared.registers.Level.{Level}
use Rattle.wave_signals.specs.declared.registers.Level.TheVariants as levels
use Rattle.wave_signals.specs.declared.view.Marker.{Marker}
use Rattle.wave_signals.specs.declared.view.View.{View}
use Rattle.wave_signals.specs.Signals.{line, level_text}
use Rattle.wave_order.specs.Times.{at_of}

-- ---- how values are shown

abbrev pub as_bit : List ℕ
as_bit = codes "28"

abbrev pub as_decimal : List ℕ
as_decimal = codes "24"

abbrev pub as_hexadecimal : List ℕ
as_hexadecimal = codes "22"

abbrev pub as_text : List ℕ
as_text = codes "820"

-- ---- signals

-- the times of the records, where the wave has them
abbrev pub time_row : Option Clock → List ℕ
time_row (Some clock) = codes "@820\nscore.time\n"
time_row None = []

-- the fault that the verdict names, and what broke first
abbrev pub mark_rows : List ℕ
mark_rows = codes "@28\nscore.fault\n@820\nscore.rule\n@28\nscore.first_fault\n@820\nscore.first_rule\n"

abbrev pub port_row : ℕ → List ℕ → List ℕ → List ℕ
port_row port flags name = codes "@" ++ (flags ++ (codes "\nscore.port" ++ (decimal port ++ (codes "." ++ line name))))

abbrev pub bank_row : ℕ → List ℕ → List ℕ → List ℕ
bank_row bank flags name = codes "@" ++ (flags ++ (codes "\nscore.bank" ++ (decimal bank ++ (codes "." ++ line name))))

-- a line of text above the signals of a port or a bank
abbrev pub title : List ℕ → ℕ → List ℕ
title scope index = codes "@200\n-" ++ (scope ++ (codes " " ++ (decimal index ++ line [])))

abbrev pub tag_row : ℕ → ℕ → List ℕ
tag_row port tag = codes "@28\nscore.port" ++ (decimal port ++ (codes ".busy" ++ (decimal tag ++ line [])))

abbrev pub tag_rows : ℕ → ℕ → List ℕ
tag_rows tags port = flat_map (tag_row port) (range_with_len 0 tags)

abbrev pub port_rows : ℕ → ℕ → List ℕ
port_rows tags port =
    title (codes "port") port ++ (port_row port as_text (codes "event") ++ (port_row port as_decimal (codes "tag[7:0]")
    ++ (port_row port as_hexadecimal (codes "address[63:0]")
    ++ (port_row port as_decimal (codes "outstanding[15:0]") ++ tag_rows tags port))))

abbrev pub all_port_rows : ℕ → ℕ → List ℕ
all_port_rows tags ports = flat_map (port_rows tags) (range_with_len 0 ports)

abbrev pub bank_request_rows : ℕ → List ℕ
bank_request_rows bank =
    bank_row bank as_decimal (codes "port[7:0]") ++ (bank_row bank as_decimal (codes "tag[7:0]")
    ++ bank_row bank as_decimal (codes "register[15:0]"))

abbrev pub bank_register_rows : ℕ → List ℕ
bank_register_rows bank = bank_row bank as_decimal (codes "level1_registers[15:0]")
    ++ bank_row bank as_decimal (codes "level2_registers[15:0]")

abbrev pub bank_traffic_rows : ℕ → List ℕ
bank_traffic_rows bank =
    bank_row bank as_decimal (codes "asked[15:0]") ++ (bank_row bank as_decimal (codes "supplied[15:0]")
    ++ (bank_row bank as_decimal (codes "level1_dirty[31:0]")
    ++ bank_row bank as_decimal (codes "level2_dirty[31:0]")))

-- the block that a register holds, and how many targets wait in it
abbrev pub register_row : Level → ℕ → ℕ → List ℕ
register_row level bank register =
    bank_row bank as_decimal (level_text level ++ (codes "_register" ++ (decimal register ++ codes "[31:0]")))
    ++ bank_row bank as_decimal (level_text level ++ (codes "_targets" ++ (decimal register ++ codes "[15:0]")))

abbrev pub register_rows : ℕ → Level → ℕ → List ℕ
register_rows registers level bank = flat_map (register_row level bank) (range_with_len 0 registers)

abbrev pub level_rows : View → ℕ → List ℕ
level_rows view bank = register_rows view.level1_registers levels.One bank
    ++ register_rows view.level2_registers levels.Two bank

abbrev pub bank_rows : View → ℕ → List ℕ
bank_rows view bank =
    title (codes "bank") bank ++ (bank_row bank as_text (codes "event")
    ++ (bank_row bank as_decimal (codes "number[31:0]")
    ++ (bank_row bank as_decimal (codes "block[31:0]") ++ (bank_request_rows bank
    ++ (bank_register_rows bank ++ (bank_traffic_rows bank ++ level_rows view bank))))))

abbrev pub all_bank_rows : View → ℕ → List ℕ
all_bank_rows view banks = flat_map (bank_rows view) (range_with_len 0 banks)

-- ---- the file

-- the place of the first record on the screen: a few before the one that the verdict names
abbrev pub opens : Option Marker → ℕ → ℕ
opens (Some m) from = max (m.place - 6) from
opens None from = from

abbrev pub opens_at : View → ℕ
opens_at view = opens view.marker view.from

-- where a place is on the axis, in picoseconds
abbrev pub picoseconds : Option Clock → ℕ → List ℕ
picoseconds None place = decimal place ++ codes "000"
picoseconds (Some clock) place = decimal (at_of clock place)

-- where a record that is marked is, or -1 where there is none
abbrev pub marked_at : Option Clock → Option Marker → List ℕ
marked_at times (Some m) = picoseconds times m.place
marked_at times None = codes "-1"

-- how much GTKWave shows at once
abbrev pub zoom : Option Clock → List ℕ
zoom None = codes "10"
zoom (Some clock) = decimal clock.zoom

-- where it begins, how much it shows, its marker, and its marker A at what broke first
abbrev pub opening : Option Clock → View → List ℕ
opening times view =
    codes "[timestart] " ++ (picoseconds times (opens_at view) ++ (codes "\n[size] 1600 900\n*-" ++ (zoom times
    ++ (codes ".5 " ++ (marked_at times view.marker ++ (codes " " ++ (marked_at times view.first ++ line [])))))))

abbrev pub save_text : Option Clock → View → ℕ → ℕ → List ℕ
save_text times view ports banks =
    opening times view ++ (codes "[signals_width] 210\n" ++ (time_row times ++ (mark_rows
    ++ (all_port_rows view.tags ports ++ all_bank_rows view banks))))
