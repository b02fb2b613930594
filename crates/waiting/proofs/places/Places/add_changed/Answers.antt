use Rattle.waiting.specs.Places.{added_changed, more_changed}
use Rattle.waiting.proofs.places.Places.add_changed.Goals as goal

pub returns-clause-added : goal.returns-clause-added
returns-clause-added c = added_changed c.args.self.now c.list_changed.new.self c.args.place c.list_changed.ensures

pub returns-clause-kept : goal.returns-clause-kept
returns-clause-kept c = more_changed c.args.self.now c.list_changed.new.self c.args.place c.list_changed.ensures
