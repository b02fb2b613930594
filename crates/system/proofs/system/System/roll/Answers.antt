use Rattle.system.proofs.Going.{all_moves, all_rolled, close_breaks, head_fails, open_fails}
use Rattle.system.proofs.system.System.roll.Goals as goal

pub returns-in_err-roll_close-clause-passes : goal.returns-in_err-roll_close-clause-passes
returns-in_err-roll_close-clause-passes g c = λ is_honest state kept.
    (close_breaks g.D.Disk.honest g.D.Disk.view c.args.self.now.store c.roll_close.new.self.store _ c.requires.unfailed
    c.in_err-roll_close.ensures.faults).1 state state is_honest kept

pub returns-in_err-roll_head-clause-passes : goal.returns-in_err-roll_head-clause-passes
returns-in_err-roll_head-clause-passes g c = λ is_honest state kept.
    head_fails g.D.Disk.honest g.D.Disk.view _ c.args.self.now.store c.roll_close.new.self.store
    c.roll_head.new.self.store _ c.requires c.in_ok-roll_close.ensures.done c.in_err-roll_head.ensures.faults state
    is_honest kept

pub returns-in_err-roll_open-clause-passes : goal.returns-in_err-roll_open-clause-passes
returns-in_err-roll_open-clause-passes g c = λ is_honest state kept.
    open_fails g.D.Disk.honest g.D.Disk.view _ _ c.args.self.now.store c.roll_close.new.self.store
    c.roll_head.new.self.store c.roll_open.new.self.store _ c.requires c.in_ok-roll_close.ensures.done
    c.in_ok-roll_head.ensures.done c.in_err-roll_open.ensures.faults state is_honest kept

pub returns-clause-kept : goal.returns-clause-kept
returns-clause-kept g c = λ is_honest state kept.
    (all_moves g.D.Disk.honest g.D.Disk.view _ _ _ c.args.self.now.store c.roll_close.new.self.store
    c.roll_head.new.self.store c.roll_open.new.self.store c.requires c.in_ok-roll_close.ensures.done
    c.in_ok-roll_head.ensures.done c.in_ok-roll_open.ensures.done state).kept is_honest kept

pub returns-clause-passes : goal.returns-clause-passes
returns-clause-passes g c = λ is_honest state kept.
    (all_moves g.D.Disk.honest g.D.Disk.view _ _ _ c.args.self.now.store c.roll_close.new.self.store
    c.roll_head.new.self.store c.roll_open.new.self.store c.requires c.in_ok-roll_close.ensures.done
    c.in_ok-roll_head.ensures.done c.in_ok-roll_open.ensures.done state).passes is_honest kept

pub returns-clause-rolls : goal.returns-clause-rolls
returns-clause-rolls g c =
    all_rolled g.D.Disk.honest g.D.Disk.view _ _ _ c.args.self.now.store c.roll_close.new.self.store
    c.roll_head.new.self.store c.roll_open.new.self.store c.requires c.in_ok-roll_close.ensures.done
    c.in_ok-roll_head.ensures.done c.in_ok-roll_open.ensures.done
