use Rattle.std.proofs.Common.{◌≡◌, ◌∙◌, true, Result, Ok, Err, OnOk, is_ok, refl, sym, ap, subst}
use Rattle.history.specs.Pasts.{PastValue}
use Rattle.keepers.specs.Tokens.{SessionValue, session_of, IsAfter, Meets}
use Rattle.keepers.proofs.Histories.{looking}
use Rattle.keepers.proofs.Meetings.{caught, caught_or_same, learned, met}
use Rattle.keepers.proofs.session.Session.learn.Goals as goal

-- what holds of two values holds of their parts, where they are these
after_within : (one other : SessionValue) (past theirs : PastValue) → past ≡ one.past → theirs ≡ other.past
    → IsAfter one.past other.past → IsAfter past theirs
after_within one other past theirs same same_too beyond =
    subst (λ (p : PastValue). IsAfter p theirs) (sym same)
    (subst (λ (p : PastValue). IsAfter one.past p) (sym same_too) beyond)

pub invariant_of-self : goal.invariant_of-self
invariant_of-self g c =
    let old : SessionValue =
    session_of c.self.inside.own_state.number c.self.inside.own_state.space c.self.inside.own_state.acknowledged
    c.self.inside.own_state.tickets.numbers c.self.inside.own_state.places.numbers c.self.inside.past in
    let beyond =
    after_within c.args.self.now c.args.other.now c.self.inside.past c.other.inside.past
    (ap (λ (v : SessionValue). v.past) c.self.view_is)
    (ap (λ (v : SessionValue). v.past) c.other.view_is) c.requires.beyond in
    let up = c.catch_up.ensures in (
      learned g.L.Founding.base old c.other.inside.past c.catch_up.new.self c.self.inside.own_state.share.amount
          c.self.invariant.0 c.other.invariant.0.history
          (caught_or_same c.self.inside.past c.other.inside.past c.catch_up.new.self c.catch_up.result beyond up.ok
          up.begins up.moved up.err),
      c.self.invariant.1,
    )

when_ok : {T E P : Type 0} (r : Result T E) → (is_ok r ≡ true → P) → OnOk r P
when_ok (Ok x) f = f refl
when_ok (Err e) f = tt

pub returns-clause-met : goal.returns-clause-met
returns-clause-met g c = when_ok c.catch_up.result (λ is.
    let old : SessionValue =
    session_of c.self.inside.own_state.number c.self.inside.own_state.space c.self.inside.own_state.acknowledged
    c.self.inside.own_state.tickets.numbers c.self.inside.own_state.places.numbers c.self.inside.past in
    let ahead : SessionValue =
    session_of c.other.inside.own_state.number c.other.inside.own_state.space c.other.inside.own_state.acknowledged
    c.other.inside.own_state.tickets.numbers c.other.inside.own_state.places.numbers c.other.inside.past in
    let beyond =
    after_within c.args.self.now c.args.other.now c.self.inside.past c.other.inside.past
    (ap (λ (v : SessionValue). v.past) c.self.view_is)
    (ap (λ (v : SessionValue). v.past) c.other.view_is) c.requires.beyond in
    let up = c.catch_up.ensures in
    let differ : old.number ≡ ahead.number → ⊥ =
    λ same. c.requires.differ (ap (λ (v : SessionValue). v.number) (sym c.self.view_is) ∙ same ∙ ap
    (λ (v : SessionValue). v.number) c.other.view_is) in
    let both =
    met g.L.Founding.base old ahead c.catch_up.new.self c.catch_up.new.other c.self.inside.own_state.share.amount
    c.other.inside.own_state.share.amount c.self.invariant.0 c.other.invariant.0 differ up.same
    (caught c.self.inside.past c.other.inside.past c.catch_up.new.self c.catch_up.result
    is beyond up.ok up.begins up.moved) in
    let new = looking old c.catch_up.new.self in
    let ahead_new = looking ahead c.catch_up.new.other in
    subst (λ (v : SessionValue). Meets v c.args.other.now new ahead_new × Meets c.args.other.now v ahead_new new)
    c.self.view_is
    (subst (λ (v : SessionValue). Meets old v new ahead_new × Meets v old ahead_new new) c.other.view_is both))
