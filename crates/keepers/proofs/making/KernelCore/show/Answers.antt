use Rattle.std.proofs.Common.{List}
use Rattle.history.specs.declared.entry.Entry.{Entry}
use Rattle.keepers.specs.Keeping.{IsKernelCore}
use Rattle.keepers.proofs.Cores.{core_history, kept_some, learned_history}
use Rattle.keepers.proofs.making.KernelCore.show.Goals as goal

pub returns-clause-learns : goal.returns-clause-learns
returns-clause-learns g c =
    let s = c.self.inside in
    let kept = c.in-Some.past.entries in
    let core =
    kept_some (λ (l : List Entry). IsKernelCore g.L.Founding.base s.half l s.opened s.earlier s.taken s.older)
    s.past c.in-Some.past c.in-Some.is c.self.invariant.2 in
    record {
      begins = c.level.ensures.begins;
      history =
          learned_history g.L.Founding.base c.level.result c.args.seen.now.entries kept c.level.new.mine.entries c.requires
          (core_history g.L.Founding.base s.half kept s.opened s.earlier s.taken s.older core)
          c.level.ensures.level c.level.ensures.err;
    }
