use Rattle.waiting.specs.Places.{added_ready, more_ready}
use Rattle.waiting.proofs.places.Places.add_ready.Goals as goal

pub returns-clause-added : goal.returns-clause-added
returns-clause-added c = added_ready c.args.self.now c.list_ready.new.self c.args.place c.list_ready.ensures

pub returns-clause-kept : goal.returns-clause-kept
returns-clause-kept c = more_ready c.args.self.now c.list_ready.new.self c.args.place c.list_ready.ensures
