use Rattle.std.proofs.Common.{sym, ◌∙◌}
use Rattle.port_calls.proofs.Asking.{variant_fails}
use Rattle.port_calls.proofs.requests.refusal_of_request.Goals as goal

pub returns-in-Some-refusal_of_variant : goal.returns-in-Some-refusal_of_variant
returns-in-Some-refusal_of_variant c =
    sym (variant_fails c.args.state.now.current c.args.space c.args.asked.name c.args.asked.variant c.args.asked.sync
    c.args.cancels c.in-Some-refusal_of_variant.code c.in-Some.ensures.found.0
    (sym c.refusal_of_variant.ensures ∙ c.in-Some-refusal_of_variant.is))
