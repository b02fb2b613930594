use Rattle.std.proofs.Common.{◌≤◌, ℕ, List, sym, subst}
use Rattle.ipc_laws.specs.OnceLaws.{made_once}
use Rattle.ipc_laws.specs.RunLaws.{steps_run}
use Rattle.history.specs.Entries.{Begins, records_of}
use Rattle.history.specs.declared.entry.Entry.{Entry}
use Rattle.keepers.specs.Tokens.{SessionValue}
use Rattle.sessions.proofs.Closings.{all_apart, all_legal, all_of, all_ascend, are_all, stands_in}
use Rattle.sessions.proofs.closing.close.Goals as goal
use Rattle.keepers.specs.Storing.{StandsFor}

pub returns-in_default-clause-unmatched : goal.returns-in_default-clause-unmatched
returns-in_default-clause-unmatched g c honest =
    let store_keeper = c.into_halves-keeper.result.1 in
    let parts = c.into_parts-disk.ensures in
    record {
      entries = store_keeper.entries;
      history = record { state = parts.recorded.end; run = parts.recorded.run };
      stands =
          λ slots may. subst (λ (n : ℕ). StandsFor g.L.Founding.base n (records_of store_keeper.entries) slots)
          (sym c.stored-stored.ensures.stored) (parts.left honest slots may);
    }

pub returns-clause-once : goal.returns-clause-once
returns-clause-once g c =
    let history = c.in-Some.ensures.matched.history in
    let lawful = c.into_parts-disk.ensures.recorded.lawful in
    record {
      end = history.state;
      run = history.run;
      once = made_once g.L.Founding.base (records_of c.in-Some.past.entries) history.state lawful
          (steps_run g.L.Founding.base history.state (records_of c.in-Some.past.entries) history.run);
    }

pub returns-clause-seen : goal.returns-clause-seen
returns-clause-seen g c =
    all_of g.L.Founding.base c.in-Some.past.entries c.stored-stored.result
    (λ (s : SessionValue). Begins s.past.entries c.in-Some.past.entries)
    (λ last s belongs. belongs.begins) 0 c.args.sessions.items c.in-Some.ensures.matched.belong

pub returns-clause-ascend : goal.returns-clause-ascend
returns-clause-ascend g c =
    all_ascend g.L.Founding.base c.in-Some.past.entries c.stored-stored.result 0 c.args.sessions.items
    c.in-Some.ensures.matched.belong

pub returns-clause-apart : goal.returns-clause-apart
returns-clause-apart g c =
    all_apart g.L.Founding.base c.in-Some.past.entries c.stored-stored.result 0 c.args.sessions.items
    c.in-Some.ensures.matched.belong

pub returns-clause-legal : goal.returns-clause-legal
returns-clause-legal g c =
    all_legal g.L.Founding.base c.in-Some.past.entries c.stored-stored.result c.in-Some.ensures.matched.history 0
    c.args.sessions.items c.in-Some.ensures.matched.belong

pub returns-clause-all : goal.returns-clause-all
returns-clause-all g c same = are_all c.in-Some.past.entries c.args.sessions.items (c.in-Some.ensures.matched.all same)

pub returns-clause-acknowledged : goal.returns-clause-acknowledged
returns-clause-acknowledged g c =
    all_of g.L.Founding.base c.in-Some.past.entries c.stored-stored.result
    (λ (s : SessionValue). s.task.acknowledged ≤ c.stored-stored.result)
    (λ last s belongs. belongs.acknowledged) 0 c.args.sessions.items c.in-Some.ensures.matched.belong

pub returns-clause-left : goal.returns-clause-left
returns-clause-left g c honest slots may =
    let store_keeper = c.into_halves-keeper.result.1 in
    let parts = c.into_parts-disk.ensures in
    stands_in g.L.Founding.base c.into_parts-disk.result.1.entries c.in-Some.past.entries c.stored-stored.result slots
    c.in-Some.ensures.matched.begins
    (subst (λ (l : List Entry). StandsFor g.L.Founding.base c.stored-stored.result (records_of l) slots)
    (sym parts.past)
    (subst (λ (n : ℕ). StandsFor g.L.Founding.base n (records_of store_keeper.entries) slots)
    (sym c.stored-stored.ensures.stored) (parts.left honest slots may)))
