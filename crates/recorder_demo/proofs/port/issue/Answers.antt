use Rattle.std.proofs.Common.{◌<◌, ◌∙◌, refl, arith}
use Rattle.recorder_demo.proofs.Coming.{counts_issue, request_made}
use Rattle.recorder_demo.proofs.port.issue.Goals as goal

pub returns-clause-counts : goal.returns-clause-counts
returns-clause-counts g c =
    let port = c.args.port.now in
    let shape = c.args.recording.now.places.shape in
    let request = c.request-request in
    let few : port.issued < 64 = (let most = c.requires.counts.few in let left = c.if-port-eq-REQUESTS.false in
    omega arith) in
    let made = c.issue_of-event.ensures ∙ request_made shape port.number port.issued _ _ _ _ request.ensures.op
    request.ensures.tag request.ensures.block request.ensures.bytes in
    counts_issue shape port _ _ _ _ _ _ c.requires.counts few made c.in_ok-record.ensures.ok refl refl refl
