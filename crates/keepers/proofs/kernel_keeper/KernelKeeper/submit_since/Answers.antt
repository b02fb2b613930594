use Rattle.std.proofs.Common.{◌≡◌, ◌∙◌, subst, sym}
use Rattle.std.specs.Prelude.{IfOk, MatchOption, OnErr, OnOk}
use Rattle.ipc_model.specs.history.History.{looked}
use Rattle.keepers.specs.Destroying.{MadeSince, SettlesBy}
use Rattle.keepers.specs.Keeping.{KernelKeeperValue, MadeAfter, entries_in}
use Rattle.keepers.specs.Tokens.{Did, SessionValue, attached_to, session_of}
use Rattle.keepers.proofs.Since.{Strays, back, made_since, strays, was_in}
use Rattle.keepers.proofs.kernel_keeper.KernelKeeper.submit_since.Goals as goal

pub returns-in-Ok-clause-made : goal.returns-in-Ok-clause-made
returns-in-Ok-clause-made g c =
    let kept = entries_in c.args.self.now.core in
    let settled = c.settle_since-session.result.0 in
    let new = c.submit-session.result.0 in
    let settles =
    subst (λ r. OnOk r (SettlesBy g.L.Founding.base c.args.since kept c.args.session settled)) c.in_default.is
    c.settle_since-session.ensures.settled in
    let after =
    subst (λ (k : KernelKeeperValue). IfOk c.submit-session.result.1 (λ ticket. MatchOption (entries_in k.core) ⊥
    (λ before. MadeAfter g.L.Founding.base before settled c.args.call.now ticket new)))
    c.settle_since-session.ensures.same c.submit-session.ensures.after in
    subst (λ r. IfOk r (λ ticket. MadeSince g.L.Founding.base c.args.since c.args.session c.args.call.now ticket new))
    c.in-Ok.is
    (made_since g.L.Founding.base c.args.since kept c.args.session settled new c.args.call.now c.submit-session.result.1
    settles after)

pub attach_to-requires : goal.attach_to-requires
attach_to-requires g c =
    let own_state = c.session.inside.own_state in
    let old : SessionValue =
    session_of own_state.number own_state.space own_state.acknowledged own_state.tickets.numbers
    own_state.places.numbers c.session.inside.past in
    let kept = entries_in c.args.self.now.core in
    let settled = c.settle_since-session.result.0 in
    let mid = c.submit-session.result.0 in
    let settles =
    subst (λ r. OnOk r (SettlesBy g.L.Founding.base c.args.since kept c.args.session settled)) c.in_default.is
    c.settle_since-session.ensures.settled in
    let did =
    subst (λ r. OnErr r (Did g.L.Founding.base settled looked mid
    × (c.submit-session.new.self ≡ c.settle_since-session.new.self))) c.in-Err-made.is c.submit-session.ensures.err in
    was_in g.L.Founding.base old mid own_state.share.amount c.session.invariant.0
    (subst (λ (s : SessionValue). Strays g.L.Founding.base s mid) (sym c.session.view_is)
    (strays g.L.Founding.base c.args.since kept c.args.session settled mid settles did.0))

pub returns-in-Err-made-clause-err : goal.returns-in-Err-made-clause-err
returns-in-Err-made-clause-err g c =
    let own_state = c.session.inside.own_state in
    let old : SessionValue =
    session_of own_state.number own_state.space own_state.acknowledged own_state.tickets.numbers
    own_state.places.numbers c.session.inside.past in
    let kept = entries_in c.args.self.now.core in
    let settled = c.settle_since-session.result.0 in
    let mid = c.submit-session.result.0 in
    let settles =
    subst (λ r. OnOk r (SettlesBy g.L.Founding.base c.args.since kept c.args.session settled)) c.in_default.is
    c.settle_since-session.ensures.settled in
    let did =
    subst (λ r. OnErr r (Did g.L.Founding.base settled looked mid
    × (c.submit-session.new.self ≡ c.settle_since-session.new.self))) c.in-Err-made.is c.submit-session.ensures.err in
    let strayed = strays g.L.Founding.base c.args.since kept c.args.session settled mid settles did.0 in (
      subst (λ (s : SessionValue). Did g.L.Founding.base c.args.session looked s) (sym c.attach_to.ensures)
          (subst (λ (s : SessionValue). Did g.L.Founding.base s looked (attached_to own_state.space mid))
          c.session.view_is
          (back g.L.Founding.base old mid
          (subst (λ (s : SessionValue). Strays g.L.Founding.base s mid) (sym c.session.view_is) strayed))),
      did.1 ∙ c.settle_since-session.ensures.same,
    )
