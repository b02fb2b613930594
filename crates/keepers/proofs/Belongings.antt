-- Sessions that belong to one history, and the parts of its ledger.
use Rattle.std.proofs.Common.{◌≡◌, ℕ, ◌+◌, ◌≤◌, List, length, sym, ◌∙◌, arith}
use Rattle.history.specs.Entries.{Begins}
use Rattle.history.specs.declared.entry.Entry.{Entry}
use Rattle.ipc_model.specs.history.History.{places_of}
use Rattle.ipc_model.specs.state.State.{State}
use Rattle.keepers.specs.Belonging.{AllBelong, Match, tasks_of}
use Rattle.keepers.specs.Tokens.{SessionValue, IsHistory}

-- All parts of the ledger are found if as many sessions are handed in as were made.
pub matched : (base : State) (known entries : List Entry) (stored made : ℕ) (sessions : List SessionValue)
    (whole rest gathered amount total : ℕ) → IsHistory base entries → Begins known entries
    → AllBelong base entries stored 0 sessions → made + rest ≡ whole
    → rest + length sessions ≤ gathered → gathered ≤ whole → amount ≡ length (places_of (tasks_of sessions))
    → (gathered ≡ whole → amount ≡ total) → total ≡ length entries → Match base known entries stored made sessions
matched base known entries stored made sessions whole rest gathered amount total history begins belong parts more within
    sum all counts = record {
      history = history;
      begins = begins;
      belong = belong;
      most = omega (arith, parts, more, within);
      all = λ same. sym sum ∙ all (omega (arith, same, parts, more, within)) ∙ counts;
    }
