use Rattle.std.proofs.Common.{◌∙◌, List, Option, sym, ap, subst}
use Rattle.history.specs.declared.entry.Entry.{Entry}
use Rattle.history.specs.Pasts.{PastValue}
use Rattle.keepers.specs.Keeping.{KernelCoreValue, IsApart, IsKernelCore}
use Rattle.keepers.proofs.Cores.{after_call, applied_call, handed_after, kept_some, unapplied_call}
use Rattle.keepers.proofs.Destroyed.{destroys_known, level_ok}
use Rattle.system.specs.Halves.{IsFullFor}
use Rattle.std.specs.Prelude.{IfOk}
use Rattle.waiting.specs.Places.{names}
use Rattle.waiting.specs.Waiting.{Wakes}
use Rattle.keepers.proofs.making.KernelCore.apply.Goals as goal

pub invariant_of-self : goal.invariant_of-self
invariant_of-self g c =
    let s = c.self.inside in
    let core =
    kept_some (λ (l : List Entry). IsKernelCore g.L.Founding.base s.half l s.opened s.earlier s.taken s.older)
    s.past c.in-Some.kept (sym c.take.ensures.value ∙ c.in-Some.is) c.self.invariant.2 in
    let a = c.apply_with_witness-kept in (
      handed_after g.L.Founding.base s.half a.new.half c.in-Some.kept a.result.0 s.opened s.earlier s.taken s.older
          c.args.number c.args.space c.args.call.now core _ a.result.2 a.ensures.given a.ensures.kept a.ensures.err
          ∙ c.self.invariant.0,
      c.self.invariant.1,
      after_call g.L.Founding.base s.half a.new.half c.in-Some.kept a.result.0 s.opened s.earlier s.taken s.older
          c.args.number c.args.space c.args.call.now core _ a.result.2 a.ensures.given a.ensures.kept a.ensures.err,
    )

pub returns-clause-given : goal.returns-clause-given
returns-clause-given g c =
    let s = c.self.inside in
    let core =
    kept_some (λ (l : List Entry). IsKernelCore g.L.Founding.base s.half l s.opened s.earlier s.taken s.older)
    s.past c.in-Some.kept (sym c.take.ensures.value ∙ c.in-Some.is) c.self.invariant.2 in
    let a = c.apply_with_witness-kept in
    applied_call g.L.Founding.base s.half a.new.half c.in-Some.kept.entries s.opened s.earlier s.taken s.older
    c.args.number c.args.space c.args.call.now core a.result.2 c.args.seen.entries a.result.0.entries
    a.result.1.entries c.args.self.now.half.log.made
    (ap (λ (v : KernelCoreValue). v.half.log.made) c.self.view_is) a.ensures.given a.ensures.kept a.ensures.seen
    a.ensures.more

pub returns-clause-err : goal.returns-clause-err
returns-clause-err g c =
    let s = c.self.inside in
    let there = sym c.take.ensures.value ∙ c.in-Some.is in
    let core =
    kept_some (λ (l : List Entry). IsKernelCore g.L.Founding.base s.half l s.opened s.earlier s.taken s.older)
    s.past c.in-Some.kept there c.self.invariant.2 in
    let a = c.apply_with_witness-kept in
    unapplied_call g.L.Founding.base s.half a.new.half s.past c.in-Some.kept a.result.0 s.opened s.earlier s.taken
    s.older c.args.self.now core there c.self.view_is a.result.2 c.args.seen.entries a.result.1.entries c.requires
    a.ensures.begins a.ensures.err

pub returns-clause-full : goal.returns-clause-full
returns-clause-full g c = λ full.
    subst (λ (v : KernelCoreValue). IsFullFor v.half c.args.space c.args.call.now) c.self.view_is
    (c.apply_with_witness-kept.ensures.full full)

pub returns-clause-apart : goal.returns-clause-apart
returns-clause-apart g c = λ apart.
    let there = sym c.take.ensures.value ∙ c.in-Some.is in
    subst (λ (v : KernelCoreValue). IsApart v.past c.args.seen) c.self.view_is
    (subst (λ (p : Option PastValue). IsApart p c.args.seen) (sym there)
    (c.apply_with_witness-kept.ensures.apart apart))

pub returns-clause-wakes : goal.returns-clause-wakes
returns-clause-wakes g c =
    let a = c.apply_with_witness-kept in
    subst (λ (v : KernelCoreValue). IfOk a.result.2
    (λ ticket. Wakes v.half.kernel.ipc a.new.half.kernel.ipc (names a.new.places))) c.self.view_is a.ensures.wakes

pub returns-clause-level : goal.returns-clause-level
returns-clause-level g c =
    let a = c.apply_with_witness-kept in
    level_ok a.result.2 a.result.0.entries a.result.1.entries a.ensures.seen

pub returns-clause-known : goal.returns-clause-known
returns-clause-known g c =
    let s = c.self.inside in
    let core =
    kept_some (λ (l : List Entry). IsKernelCore g.L.Founding.base s.half l s.opened s.earlier s.taken s.older)
    s.past c.in-Some.kept (sym c.take.ensures.value ∙ c.in-Some.is) c.self.invariant.2 in
    let a = c.apply_with_witness-kept in
    destroys_known g.L.Founding.base s.half a.new.half c.in-Some.kept.entries s.opened s.earlier s.taken s.older
    c.args.space c.args.call.now core a.result.2 a.ensures.given
