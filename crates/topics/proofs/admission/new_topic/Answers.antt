use Rattle.std.proofs.Common.{◌≤◌, length, Ok, Err, sym, ap, ◌∙◌, subst, arith}
use Rattle.maps.specs.Laws.{Topical}
use Rattle.maps.specs.Maps.{meant, with_defaults, in_range}
use Rattle.std.proofs.lemmas.Result.{err_from_is_err_and, IfOk-from_err}
use Rattle.maps.specs.Reading.{told}
use Rattle.topics.proofs.Judging.{ranged_out, fitting, passed, failed}
use Rattle.topics.proofs.Topics.{topical}
use Rattle.topics.proofs.admission.new_topic.Goals as goal

pub returns-in_err-check_range : goal.returns-in_err-check_range
returns-in_err-check_range c =
    let p = meant c.in_ok-given.given in
    let x = err_from_is_err_and c.from_residual-in_err-check_range.result c.from_residual-in_err-check_range.ensures.1 in
    let f = failed (in_range p) _ c.in_err-check_range.ensures in
    let short : length c.args.map.now ≤ 576 = omega arith in
    record {
      answer = ap told x.1 ∙ ap Err (x.2 ∙ f.1) ∙ ranged_out c.args.address.now c.args.map.now short p c.in_ok-given.ensures f.0;
      topical = λ _. IfOk-from_err _ _ c.from_residual-in_err-check_range.ensures.0;
    }

pub returns : goal.returns
returns c =
    let p = meant c.in_ok-given.given in
    let short : length c.args.map.now ≤ 576 = omega arith in
    let ranged = passed (in_range p) c.in_ok-check_range.ensures in
    let fits = sym c.if-not-is_fit.ensures in
    let is = c.with_defaults.ensures.answer ∙ ap with_defaults c.addressed.ensures.answer in
    record {
      answer = ap Ok is ∙ fitting c.args.address.now c.args.map.now short p c.in_ok-given.ensures ranged fits;
      topical = λ l. subst Topical (sym is) (topical p c.args.address.now l ranged fits);
    }
