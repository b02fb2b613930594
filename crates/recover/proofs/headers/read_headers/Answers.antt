use Rattle.std.proofs.Common.{subst, ◌∙◌}
use Rattle.std.proofs.lemmas.Result.{err_from_is_err_and}
use Rattle.disk.specs.Slots.{Slots}
use Rattle.ipc_model.specs.store.Recovery.{image_header, segment_header_length}
use Rattle.recover.specs.Headers.{Says}
use Rattle.recover.proofs.Faults.{none_in_error}
use Rattle.recover.proofs.headers.read_headers.Goals as goal

pub returns-clause-said : goal.returns-clause-said
returns-clause-said g c = λ honest.
    let first = c.in_ok-image0.ensures.seen honest in
    let second = c.in_ok-image1.ensures.seen honest ∙ first in
    let third = c.in_ok-segment0.ensures.seen honest ∙ second in
    record {
      image0 = c.in_ok-image0.ensures.said honest;
      image1 =
          subst (λ (s : Slots). Says image_header s.image1 c.in_ok-image1.image1) first
          (c.in_ok-image1.ensures.said honest);
      segment0 =
          subst (λ (s : Slots). Says segment_header_length s.segment0 c.in_ok-segment0.segment0) second
          (c.in_ok-segment0.ensures.said honest);
      segment1 =
          subst (λ (s : Slots). Says segment_header_length s.segment1 c.in_ok-segment1.segment1) third
          (c.in_ok-segment1.ensures.said honest);
    }

pub returns-in_err-image0-clause-said : goal.returns-in_err-image0-clause-said
returns-in_err-image0-clause-said g c =
    λ honest. let p = err_from_is_err_and c.from_residual.result c.from_residual.ensures.1 in
    none_in_error _ c.from_residual.result _ p.1

pub returns-in_err-image0-clause-seen : goal.returns-in_err-image0-clause-seen
returns-in_err-image0-clause-seen g c = λ honest. c.in_err-image0.ensures.seen honest

pub returns-in_err-image1-clause-said : goal.returns-in_err-image1-clause-said
returns-in_err-image1-clause-said g c =
    λ honest. let p = err_from_is_err_and c.from_residual-in_err-image1.result c.from_residual-in_err-image1.ensures.1
    in none_in_error _ c.from_residual-in_err-image1.result _ p.1

pub returns-in_err-image1-clause-seen : goal.returns-in_err-image1-clause-seen
returns-in_err-image1-clause-seen g c =
    λ honest. c.in_err-image1.ensures.seen honest ∙ c.in_ok-image0.ensures.seen honest

pub returns-in_err-segment0-clause-said : goal.returns-in_err-segment0-clause-said
returns-in_err-segment0-clause-said g c =
    λ honest. let p = err_from_is_err_and c.from_residual-in_err-segment0.result
    c.from_residual-in_err-segment0.ensures.1 in none_in_error _ c.from_residual-in_err-segment0.result _ p.1

pub returns-in_err-segment0-clause-seen : goal.returns-in_err-segment0-clause-seen
returns-in_err-segment0-clause-seen g c =
    λ honest. c.in_err-segment0.ensures.seen honest ∙ c.in_ok-image1.ensures.seen honest
    ∙ c.in_ok-image0.ensures.seen honest

pub returns-in_err-segment1-clause-said : goal.returns-in_err-segment1-clause-said
returns-in_err-segment1-clause-said g c =
    λ honest. let p = err_from_is_err_and c.from_residual-in_err-segment1.result
    c.from_residual-in_err-segment1.ensures.1 in none_in_error _ c.from_residual-in_err-segment1.result _ p.1

pub returns-in_err-segment1-clause-seen : goal.returns-in_err-segment1-clause-seen
returns-in_err-segment1-clause-seen g c =
    λ honest. c.in_err-segment1.ensures.seen honest ∙ c.in_ok-segment0.ensures.seen honest
    ∙ c.in_ok-image1.ensures.seen honest ∙ c.in_ok-image0.ensures.seen honest
