-- What is needed for each thing that can be asked.
use Rattle.std.specs.Prelude.{Bool, true, false}
use Rattle.run_engine.specs.declared.ask.Needs.{Needs}

-- the verdict, and an order where one is asked for
abbrev pub verdict_needs : Bool → Needs
verdict_needs ordered = record {
  asked = record { ordered = ordered; watched = false; counted = false };
  early = false;
  bytes = false;
}

-- the bytes, and what broke first where that is asked for
abbrev pub bytes_needs : Bool → Needs
bytes_needs watched = record {
  asked = record { ordered = false; watched = watched; counted = false };
  early = false;
  bytes = true;
}

-- what broke, as soon as something did
abbrev pub watch_needs : Needs
watch_needs = record {
  asked = record { ordered = false; watched = true; counted = false };
  early = true;
  bytes = false;
}

-- the statistics, and an order where one is asked for
abbrev pub statistics_needs : Bool → Needs
statistics_needs ordered = record {
  asked = record { ordered = ordered; watched = false; counted = true };
  early = false;
  bytes = false;
}
