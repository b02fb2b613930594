-- Sessions as what they know of the history grows.
use Rattle.std.proofs.Common.{◌≡◌, ℕ, zero, suc, ◌⊎◌, List, [], ◌∷◌, ◌++◌, length, take, drop, Some, refl, sym, ap, subst, ◌∙◌, inl, inr, arith}
use Rattle.std.specs.Prelude.{option_map, slice_get}
use Rattle.std.proofs.lemmas.List.{length-map}
use Rattle.std.proofs.lemmas.Option.{slice_get-map, slice_get_within}
use Rattle.std.proofs.Math.Seq.{take-length}
use Rattle.codes.specs.declared.name.TheConstants.{NO_SPACE}
use Rattle.history.proofs.Beginnings.{begins_itself, begins_length, begins_records, begins_rest, begins_trans}
use Rattle.history.specs.Entries.{Begins, records_of}
use Rattle.history.specs.Pasts.{PastValue}
use Rattle.history.specs.declared.entry.Entry.{Entry}
use Rattle.ipc_laws.specs.HistoryLaws.{after_more, legal_stays_legal}
use Rattle.ipc_model.specs.declared.record.Record.{Record}
use Rattle.ipc_model.specs.history.History.{Destroys, Legal, Operation, Session, detached, looked}
use Rattle.ipc_model.specs.state.State.{State}
use Rattle.keepers.specs.Destroying.{IsGoneSince}
use Rattle.keepers.specs.Tokens.{SessionValue, AreOwn, IsHistory, IsSession, Did}

-- a session's own entries

still_own : (old more : List Entry) (place number : ℕ) → option_map (λ e. e.session) (slice_get old place) ≡ Some number
    → option_map (λ e. e.session) (slice_get (old ++ more) place) ≡ Some number
still_own [] more place number is = absurd (cc is)
still_own (e ∷ old) more zero number is = is
still_own (e ∷ old) more (suc place) number is = still_own old more place number is

pub own_further : (old new : List Entry) (number : ℕ) (places : List ℕ) → Begins old new → AreOwn old number places
    → AreOwn new number places
own_further old new number places begins own i place at =
    subst (λ (l : List Entry). option_map (λ e. e.session) (slice_get l place) ≡ Some number)
    (sym (begins_rest old new begins)) (still_own old (drop (length old) new) place number (own i place at))

some_is : {A : Type 0} (a b : A) → Some a ≡ Some b → a ≡ b
some_is a b e = cc e

got_either : (places : List ℕ) (last i place : ℕ) → slice_get (places ++ last ∷ []) i ≡ Some place
    → (slice_get places i ≡ Some place) ⊎ (last ≡ place)
got_either [] last zero place at = inr (some_is last place at)
got_either [] last (suc i) place at = absurd (cc at)
got_either (first ∷ places) last zero place at = inl at
got_either (first ∷ places) last (suc i) place at = got_either places last i place at

pub own_more : (entries : List Entry) (number : ℕ) (places : List ℕ) (last : ℕ)
    → option_map (λ e. e.session) (slice_get entries last) ≡ Some number → AreOwn entries number places
    → AreOwn entries number (places ++ last ∷ [])
own_more entries number places last there own i place at = go (got_either places last i place at)
  where
    go : (slice_get places i ≡ Some place) ⊎ (last ≡ place)
        → option_map (λ e. e.session) (slice_get entries place) ≡ Some number
    go (inl before) = own i place before
    go (inr same) = subst (λ (p : ℕ). option_map (λ e. e.session) (slice_get entries p) ≡ Some number) same there

pub got_pushed : {A : Type 0} (xs : List A) (x : A) → slice_get (xs ++ x ∷ []) (length xs) ≡ Some x
got_pushed [] x = refl
got_pushed (y ∷ xs) x = got_pushed xs x

-- operations

-- A session stays one after an operation.
pub did_session : (base : State) (old : SessionValue) (operation : Operation) (new : SessionValue) (amount after : ℕ)
    → IsHistory base new.past.entries → IsSession base old amount → Did base old operation new
    → new.task.seen ≡ length new.past.entries
    → AreOwn new.past.entries new.number new.task.places → after ≡ length new.task.places → IsSession base new after
did_session base old operation new amount after history is did seen own counted =
    let more = begins_records old.past.entries new.past.entries did.begins in
    let legal =
    subst (λ (l : List Record). Legal base l is.operations old.task) (sym more)
    (legal_stays_legal base (records_of old.past.entries)
    (records_of (drop (length old.past.entries) new.past.entries)) is.operations old.task is.legal) in
    record {
      history = history;
      operations = is.operations ++ operation ∷ [];
      legal =
          record {
            start = legal.start;
            new = legal.new;
            after = after_more base (records_of new.past.entries) legal.start is.operations old.task operation
                new.task legal.after did.after;
          };
      seen = seen;
      own = own;
      counted = counted;
    }

-- A session that has seen more.

abbrev pub looking : SessionValue → PastValue → SessionValue
looking old past = record { number = old.number; past = past; task = record old.task { seen = length past.entries } }

pub did_look : (base : State) (old : SessionValue) (past : PastValue) → old.task.seen ≡ length old.past.entries
    → Begins old.past.entries past.entries → Did base old looked (looking old past)
did_look base old past seen begins = record {
  after =
      record {
        leads = refl;
        more = omega (arith, seen, begins_length old.past.entries past.entries begins);
        within = omega (arith, length-map past.entries (λ (e : Entry). e.«record»));
      };
  begins = begins;
  same = refl;
}

pub looks : (base : State) (old : SessionValue) (past : PastValue) (amount : ℕ) → IsHistory base past.entries
    → IsSession base old amount → Begins old.past.entries past.entries → IsSession base (looking old past) amount
looks base old past amount history is begins =
    did_session base old looked (looking old past) amount amount history is (did_look base old past is.seen begins) refl
    (own_further old.past.entries past.entries old.number old.task.places begins is.own) is.counted

pub same_long : (short long : List Entry) → Begins short long → length long ≡ length short → long ≡ short
same_long short long begins same = sym (take-length long) ∙ ap (λ (n : ℕ). take n long) same ∙ begins

-- A session whose space has gone.

abbrev pub detaching : SessionValue → SessionValue
detaching old =
    record {
      number = old.number;
      past = old.past;
      task = record old.task { space = NO_SPACE; seen = length old.past.entries };
    }

pub did_detach : (base : State) (old : SessionValue) → old.task.seen ≡ length old.past.entries
    → IsGoneSince 0 old.task.space (Some old.past.entries) → Did base old detached (detaching old)
did_detach base old seen (place, e, since, at, destroys) = record {
  after =
      record {
        leads = record {
          place = place;
          entry = e.«record»;
          there =
              slice_get-map (λ (e : Entry). e.«record») old.past.entries place
              ∙ ap (option_map (λ (e : Entry). e.«record»)) at;
          destroys = destroys;
          seen = slice_get_within old.past.entries place e at;
          after = refl;
        };
        more = omega (arith, seen);
        within = omega (arith, length-map old.past.entries (λ (e : Entry). e.«record»));
      };
  begins = begins_itself old.past.entries;
  same = refl;
}

pub detaches : (base : State) (old : SessionValue) (amount : ℕ) → IsGoneSince 0 old.task.space (Some old.past.entries)
    → IsSession base old amount → IsSession base (detaching old) amount
detaches base old amount gone is =
    did_session base old detached (detaching old) amount amount is.history is (did_detach base old is.seen gone) refl
    is.own is.counted

-- A session that looked and was then detached was detached.
pub looked_detached : (base : State) (old mid new : SessionValue) → Did base old looked mid → Did base mid detached new
    → Did base old detached new
looked_detached base old mid new look gone = record {
  after =
      record {
        leads = record {
          place = gone.after.leads.place;
          entry = gone.after.leads.entry;
          there = gone.after.leads.there;
          destroys =
              subst (λ (space : ℕ). Destroys space gone.after.leads.entry)
              (ap (λ (s : Session). s.space) look.after.leads) gone.after.leads.destroys;
          seen = gone.after.leads.seen;
          after =
              gone.after.leads.after
              ∙ ap (λ (s : Session). record s { space = NO_SPACE; seen = new.task.seen }) look.after.leads;
        };
        more = omega (arith, look.after.more, gone.after.more);
        within = gone.after.within;
      };
  begins = begins_trans old.past.entries mid.past.entries new.past.entries look.begins gone.begins;
  same = gone.same ∙ look.same;
}
