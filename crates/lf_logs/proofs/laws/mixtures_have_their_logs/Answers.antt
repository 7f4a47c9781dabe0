use Rattle.lf_logs.proofs.Mixed.{log_after_log, same_logs}
use Rattle.lf_logs.proofs.laws.mixtures_have_their_logs.Goals as goal

pub returns-clause-log_after_log : goal.returns-clause-log_after_log
returns-clause-log_after_log c = log_after_log

pub returns-clause-again : goal.returns-clause-again
returns-clause-again c = same_logs
