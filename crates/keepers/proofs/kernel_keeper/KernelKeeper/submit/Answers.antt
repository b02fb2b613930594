use Rattle.std.proofs.Common.{◌≡◌, ◌∙◌, ℕ, ◌<◌, ◌≤◌, [], ◌∷◌, ◌++◌, length, Some, refl, sym, ap, subst, arith}
use Rattle.std.specs.Prelude.{IfOk, IsErrOf, MatchOption, OnErr, OnOk, option_map}
use Rattle.ipc_model.specs.history.History.{called}
use Rattle.keepers.specs.Keeping.{Applies, IsApart, KernelKeeperValue, Learns, MadeAfter, Makes, entries_in, entries_of_call}
use Rattle.keepers.specs.Destroying.{DestroysKnown}
use Rattle.keepers.proofs.Destroyed.{known_noted, tells_called}
use Rattle.keepers.specs.Tokens.{Did, SessionValue, session_of}
use Rattle.keepers.proofs.Calls.{book_counts, called_session}
use Rattle.keepers.proofs.Histories.{looks}
use Rattle.keepers.proofs.Since.{made_after}
use Rattle.system.specs.Halves.{IsFullFor}
use Rattle.keepers.specs.declared.session_fault.SessionFault.TheVariants.{Apart, EpochFull}
use Rattle.waiting.specs.Places.{names}
use Rattle.waiting.specs.Waiting.{Wakes}
use Rattle.keepers.proofs.kernel_keeper.KernelKeeper.submit.Goals as goal

pub invariant_of-self : goal.invariant_of-self
invariant_of-self g c =
    let own_state = c.session.inside.own_state in
    let old : SessionValue =
    session_of own_state.number own_state.space own_state.acknowledged own_state.tickets.numbers
    own_state.places.numbers c.session.inside.past in
    let made = c.self.inside.core.half.log.made in
    let past = c.apply-past.result.0 in
    let did =
    subst (λ r. IfOk r (λ ticket. Applies g.L.Founding.base own_state.number own_state.space
    c.session.inside.past.entries c.args.call.now ticket past.entries made c.apply-past.new.self.half.log.made))
    c.in-Ok.is c.apply-past.ensures.given in
    let grew =
    λ (more : made < length past.entries). c.note_call.ensures.recorded
    (omega (arith, more, c.made-before.ensures.made, c.len.ensures)) in
    let none =
    λ (same : length past.entries ≤ made). c.note_call.ensures.answered
    (omega (arith, same, c.made-before.ensures.made, c.len.ensures)) in
    let makes =
    subst (λ r. IfOk r (λ ticket. Makes c.self.inside.core own_state.number own_state.space c.args.call.now ticket
    c.apply-past.new.self)) c.in-Ok.is c.apply-past.ensures.makes in
    let level =
    subst (λ r. OnOk r (entries_in c.apply-past.new.self ≡ Some past.entries)) c.in-Ok.is c.apply-past.ensures.level in (
      book_counts g.L.Founding.base old c.args.call.now c.in-Ok.ticket past made c.apply-past.new.self.half.log.made did
          refl c.self.inside.book.total c.note_call.new.book.total c.self.invariant.0 (λ more. (grew more).3)
          (λ same. (none same).3),
      tells_called c.self.inside.destructions c.note.new.self (entries_in c.self.inside.core)
          (entries_in c.apply-past.new.self) past.entries own_state.number own_state.space c.made-before.result
          _ c.args.call.now c.in-Ok.ticket c.self.invariant.1 c.made-before.ensures.all makes.entries level
          c.len-in-Ok.ensures c.note.ensures,
    )

pub note-requires : goal.note-requires
note-requires g c =
    let own_state = c.session.inside.own_state in
    let made = c.self.inside.core.half.log.made in
    let past = c.apply-past.result.0 in
    let did =
    subst (λ r. IfOk r (λ ticket. Applies g.L.Founding.base own_state.number own_state.space
    c.session.inside.past.entries c.args.call.now ticket past.entries made c.apply-past.new.self.half.log.made))
    c.in-Ok.is c.apply-past.ensures.given in
    let known =
    subst (λ r. IfOk r (λ ticket. DestroysKnown own_state.space c.args.call.now ticket)) c.in-Ok.is
    c.apply-past.ensures.known in
    record {
      known = known_noted g.L.Founding.base own_state.number own_state.space c.session.inside.past.entries c.args.call.now
          c.in-Ok.ticket past.entries made c.apply-past.new.self.half.log.made c.made-before.result _ did
          c.made-before.ensures.made c.len-in-Ok.ensures known;
    }

pub invariant_of-result : goal.invariant_of-result
invariant_of-result g c =
    let own_state = c.session.inside.own_state in
    let old : SessionValue =
    session_of own_state.number own_state.space own_state.acknowledged own_state.tickets.numbers
    own_state.places.numbers c.session.inside.past in
    let made = c.self.inside.core.half.log.made in
    let past = c.apply-past.result.0 in
    let did =
    subst (λ r. IfOk r (λ ticket. Applies g.L.Founding.base own_state.number own_state.space
    c.session.inside.past.entries c.args.call.now ticket past.entries made c.apply-past.new.self.half.log.made))
    c.in-Ok.is c.apply-past.ensures.given in
    let grew =
    λ (more : made < length past.entries). c.note_call.ensures.recorded
    (omega (arith, more, c.made-before.ensures.made, c.len.ensures)) in
    let none =
    λ (same : length past.entries ≤ made). c.note_call.ensures.answered
    (omega (arith, same, c.made-before.ensures.made, c.len.ensures)) in
    let both =
    called_session g.L.Founding.base old c.args.call.now c.in-Ok.ticket past made
    c.apply-past.new.self.half.log.made did refl own_state.share.amount c.note_call.new.own_state.number
    c.note_call.new.own_state.space c.note_call.new.own_state.acknowledged
    c.note_call.new.own_state.share.amount c.note_call.new.own_state.tickets.numbers
    c.note_call.new.own_state.places.numbers
    c.note_call.ensures.same.0 c.note_call.ensures.same.1
    (c.note_call.ensures.given ∙ ap (λ (n : ℕ). own_state.tickets.numbers ++ n ∷ []) c.len.ensures)
    (λ more. (
      (grew more).0,
      (grew more).1 ∙ ap
          (λ (n : ℕ). own_state.places.numbers ++ n ∷ []) c.made-before.ensures.made,
      (grew more).2,
    ))
    (λ same. ((none same).0, (none same).1, (none same).2)) c.session.invariant.0 in
    (both.0, omega (arith, c.note_call.ensures.same.2, c.session.invariant.1))

pub invariant_of-result-in-Err : goal.invariant_of-result-in-Err
invariant_of-result-in-Err g c =
    let own_state = c.session.inside.own_state in
    let old : SessionValue =
    session_of own_state.number own_state.space own_state.acknowledged own_state.tickets.numbers
    own_state.places.numbers c.session.inside.past in
    let learns =
    subst (λ r. OnErr r (Learns g.L.Founding.base c.session.inside.past.entries c.apply-past.result.0.entries
    × (c.apply-past.new.self ≡ c.self.inside.core))) c.in-Err.is c.apply-past.ensures.err in (
      looks g.L.Founding.base old c.apply-past.result.0 own_state.share.amount learns.0.history c.session.invariant.0
          learns.0.begins,
      c.session.invariant.1,
    )

pub returns-in-Ok-clause-given : goal.returns-in-Ok-clause-given
returns-in-Ok-clause-given g c =
    let own_state = c.session.inside.own_state in
    let old : SessionValue =
    session_of own_state.number own_state.space own_state.acknowledged own_state.tickets.numbers
    own_state.places.numbers c.session.inside.past in
    let made = c.self.inside.core.half.log.made in
    let past = c.apply-past.result.0 in
    let did =
    subst (λ r. IfOk r (λ ticket. Applies g.L.Founding.base own_state.number own_state.space
    c.session.inside.past.entries c.args.call.now ticket past.entries made c.apply-past.new.self.half.log.made))
    c.in-Ok.is c.apply-past.ensures.given in
    let grew =
    λ (more : made < length past.entries). c.note_call.ensures.recorded
    (omega (arith, more, c.made-before.ensures.made, c.len.ensures)) in
    let none =
    λ (same : length past.entries ≤ made). c.note_call.ensures.answered
    (omega (arith, same, c.made-before.ensures.made, c.len.ensures)) in
    let both =
    called_session g.L.Founding.base old c.args.call.now c.in-Ok.ticket past made
    c.apply-past.new.self.half.log.made did refl own_state.share.amount c.note_call.new.own_state.number
    c.note_call.new.own_state.space c.note_call.new.own_state.acknowledged
    c.note_call.new.own_state.share.amount c.note_call.new.own_state.tickets.numbers
    c.note_call.new.own_state.places.numbers
    c.note_call.ensures.same.0 c.note_call.ensures.same.1
    (c.note_call.ensures.given ∙ ap (λ (n : ℕ). own_state.tickets.numbers ++ n ∷ []) c.len.ensures)
    (λ more. (
      (grew more).0,
      (grew more).1 ∙ ap
          (λ (n : ℕ). own_state.places.numbers ++ n ∷ []) c.made-before.ensures.made,
      (grew more).2,
    ))
    (λ same. ((none same).0, (none same).1, (none same).2)) c.session.invariant.0 in (
      subst (λ (v : SessionValue). Did g.L.Founding.base v (called c.args.call.now c.in-Ok.ticket.answer)
          (session_of c.note_call.new.own_state.number c.note_call.new.own_state.space
          c.note_call.new.own_state.acknowledged c.note_call.new.own_state.tickets.numbers
          c.note_call.new.own_state.places.numbers past)) c.session.view_is both.1,
      did.seen_is,
    )

pub returns-in-Ok-clause-after : goal.returns-in-Ok-clause-after
returns-in-Ok-clause-after g c =
    let own_state = c.session.inside.own_state in
    let made = c.self.inside.core.half.log.made in
    let past = c.apply-past.result.0 in
    let call = c.args.call.now in
    let new : SessionValue =
    session_of c.note_call.new.own_state.number c.note_call.new.own_state.space c.note_call.new.own_state.acknowledged
    c.note_call.new.own_state.tickets.numbers c.note_call.new.own_state.places.numbers past in
    let did =
    subst (λ (v : SessionValue). Applies g.L.Founding.base v.number v.task.space v.past.entries call c.in-Ok.ticket
    past.entries made c.apply-past.new.self.half.log.made) c.session.view_is
    (subst (λ r. IfOk r (λ ticket. Applies g.L.Founding.base own_state.number own_state.space
    c.session.inside.past.entries call ticket past.entries made c.apply-past.new.self.half.log.made))
    c.in-Ok.is c.apply-past.ensures.given) in
    let makes =
    subst (λ r. IfOk r (λ ticket. Makes c.self.inside.core own_state.number own_state.space call ticket
    c.apply-past.new.self)) c.in-Ok.is c.apply-past.ensures.makes in
    let grown =
    subst (λ (v : SessionValue). entries_in c.apply-past.new.self
    ≡ option_map (λ l. l ++ entries_of_call v.number v.task.space call c.in-Ok.ticket)
    (entries_in c.self.inside.core)) c.session.view_is makes.entries in
    let level =
    subst (λ r. OnOk r (entries_in c.apply-past.new.self ≡ Some past.entries)) c.in-Ok.is c.apply-past.ensures.level in
    subst (λ (v : KernelKeeperValue). MatchOption (entries_in v.core) ⊥
    (λ before. MadeAfter g.L.Founding.base before c.args.session call c.in-Ok.ticket new)) c.self.view_is
    (made_after g.L.Founding.base (entries_in c.self.inside.core) (entries_in c.apply-past.new.self) c.args.session new
    call c.in-Ok.ticket made c.apply-past.new.self.half.log.made did (returns-in-Ok-clause-given g c).0 refl grown level)

pub returns-in-Err-clause-full : goal.returns-in-Err-clause-full
returns-in-Err-clause-full g c = λ full.
    let call = c.args.call.now in
    let why = c.apply-past.ensures.full (subst (λ r. IsErrOf r EpochFull) (sym c.in-Err.is) full) in
    subst (λ (v : KernelKeeperValue). IsFullFor v.core.half c.args.session.task.space call) c.self.view_is
    (subst (λ (s : SessionValue). IsFullFor c.self.inside.core.half s.task.space call) c.session.view_is why)

pub returns-in-Err-clause-apart : goal.returns-in-Err-clause-apart
returns-in-Err-clause-apart g c = λ apart.
    let why = c.apply-past.ensures.apart (subst (λ r. IsErrOf r Apart) (sym c.in-Err.is) apart) in
    subst (λ (v : KernelKeeperValue). IsApart v.core.past c.args.session.past) c.self.view_is
    (subst (λ (s : SessionValue). IsApart c.self.inside.core.past s.past) c.session.view_is why)

pub returns-in-Ok-clause-wakes : goal.returns-in-Ok-clause-wakes
returns-in-Ok-clause-wakes g c =
    let a = c.apply-past in
    subst (λ (v : KernelKeeperValue). Wakes v.core.half.kernel.ipc a.new.self.half.kernel.ipc (names a.new.places))
    c.self.view_is (rw c.in-Ok.is at a.ensures.wakes)
