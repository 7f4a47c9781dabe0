-- Errors that are made from others, and the refusal of a text that is no configuration.
use Rattle.std.proofs.Common.{List, ℕ, Ok, Err}
use Rattle.std.specs.Prelude.{Result, IfErr}
use Rattle.std.specs.Result.{IsErrAnd}
use Rattle.lf_config.specs.declared.fault.ConfigFault.{ConfigFault}
use Rattle.lf_config.specs.declared.fault.ConfigFault.TheVariants as told
use Rattle.lf_config.specs.Configuration.{configuration_of, Tells}
use Rattle.lf_verdict.specs.Configured.{config_refusal}
use Rattle.lf_verdict.specs.Session.{IsConfigRefusal}

-- what holds of an error by what it was made from
pub if_err_from : {T E : Type 0} {Q P : E → Type 0} (answer : Result T E) → ((e : E) → Q e → P e) → IsErrAnd answer Q →
    IfErr answer P
if_err_from (Ok value) told is = tt
if_err_from (Err e) told is = told e is

pub config_refused : (text : List ℕ) (fault : ConfigFault) → Tells fault (configuration_of text) →
    IsConfigRefusal text (config_refusal fault)
config_refused text told.NotToml is = is
config_refused text (told.Unknown name) is = is
config_refused text (told.Missing key) is = is
config_refused text (told.Kind key) is = is
config_refused text (told.Range key) is = is
config_refused text told.NoMemory is = tt
