use Rattle.std.proofs.Common.{ap, ◌∙◌}
use Rattle.ipc_model.specs.declared.message.RightKind.TheVariants as kind
use Rattle.port_indexes.specs.Rights.{right_weight}
use Rattle.spaces.specs.Counting.{spaces_weigh}
use Rattle.spaces.specs.Slots.{TrackedSpaces}
use Rattle.spaces.proofs.spaces.Spaces.send_onces.Goals as goal

pub returns-clause-value : goal.returns-clause-value
returns-clause-value c =
    c.send_onces.ensures.value ∙ c.self.invariant.1.counted.onces c.args.port c.ranges.port.fits ∙ ap
    (λ (t : TrackedSpaces). spaces_weigh (right_weight kind.SendOnce c.args.port) t.current) c.self.view_is
