-- Each change of a space's names keeps the invariant of the indexes.
use Rattle.std.proofs.Common.{◌≡◌, ℕ, ◌^◌, ◌<◌, Bool, true, false, cond, Option, None, Some, is_some, option_and_then, refl, sym, ◌∙◌, ap, subst, arith, inl, inr}
use Rattle.std.specs.Cmp.{nat_cmp_total}
use Rattle.std.specs.Ordering.{nat_cmp, eq_by_cmp}
use Rattle.std.specs.FinMap.{get, insert, remove, len, empty, get-empty, get-insert, get-remove}
use Rattle.codes.specs.declared.limits.TheConstants.{MAX_NAMES}
use Rattle.ipc_model.specs.declared.entry.Entry.{Entry}
use Rattle.ipc_model.specs.state.Ipc.{Names, is_number, port_held}
use Rattle.ipc_laws.specs.MapSums.{key_is}
use Rattle.port_space.specs.Alongside.{Numbers, has, with_port, without_port, StandAlongside, AreByPort, AreFree, GoesOn}
use Rattle.port_space.specs.References.{AreBounded, AreFewReferences}
use Rattle.port_space.specs.Tables.{AreSmall, AreNew, AreCommitted, AreRolledBack, IsPut, IsRemoved, SameBefore}
use Rattle.tracked_map.specs.Tracked.{Tracked, at_rest}
use Rattle.port_space.specs.declared.tables.Tables.{Tables}
use Rattle.port_space.proofs.ByPort.{by_port_changed}
use Rattle.port_space.proofs.Bounds.{bounded_insert, bounded_remove, bounded_empty}
use Rattle.port_space.proofs.Free.{free_put, free_removed, free_without, no_gap_goes, stays_low}

pub small_insert : (names : Names) (name : ℕ) (entry : Entry) → AreSmall names → name < 2 ^ 32
    → AreSmall (insert names name entry)
small_insert names name entry small fits q there =
    go (eq_by_cmp nat_cmp q name) refl (sym (ap is_some (get-insert nat_cmp_total names name entry q)) ∙ there)
  where
    go : (b : Bool) → eq_by_cmp nat_cmp q name ≡ b → is_some (cond b (Some entry) (get names q)) ≡ true → q < 2 ^ 32
    go true same is = subst (λ n. n < 2 ^ 32) (sym (key_is q name same)) fits
    go false same is = small q is

pub small_bounded : (names : Names) → AreBounded names → AreSmall names
small_bounded names bounded name there = go (get names name) refl there
  where
    go : (o : Option Entry) → get names name ≡ o → is_some o ≡ true → name < 2 ^ 32
    go None is some = absurd (cc some)
    go (Some entry) is some = (bounded.each name entry is).0

has_removed : (gaps : Numbers) (name q : ℕ)
    → has (remove gaps name) q ≡ cond (eq_by_cmp nat_cmp q name) false (has gaps q)
has_removed gaps name q = ap is_some (get-remove nat_cmp_total gaps name q) ∙ go (eq_by_cmp nat_cmp q name) (get gaps q)
  where
    go : (b : Bool) (o : Option (Unit {0})) → is_some (cond b None o) ≡ cond b false (is_some o)
    go true o = refl
    go false o = refl

has_inserted : (gaps : Numbers) (name q : ℕ)
    → has (insert gaps name tt) q ≡ cond (eq_by_cmp nat_cmp q name) true (has gaps q)
has_inserted gaps name q =
    ap is_some (get-insert nat_cmp_total gaps name tt q) ∙ go (eq_by_cmp nat_cmp q name) (get gaps q)
  where
    go : (b : Bool) (o : Option (Unit {0})) → is_some (cond b (Some tt) o) ≡ cond b true (is_some o)
    go true o = refl
    go false o = refl

pub put_stands : (old new : Tables) (name : ℕ) (entry : Entry) → name < 2 ^ 32 → AreFewReferences entry
    → (get old.names.current name ≡ None → len old.names.current < MAX_NAMES)
    → StandAlongside old.names.current old.by_port.current old.gaps.current old.low → IsPut old new name entry
    → StandAlongside new.names.current new.by_port.current new.gaps.current new.low
put_stands old new name entry fits few room alongside put = record {
  bounded =
      subst AreBounded (sym put.names) (bounded_insert old.names.current name entry alongside.bounded room fits few);
  ports =
      subst (AreByPort new.names.current) (sym put.by_port)
      (by_port_changed old.names.current new.names.current old.by_port.current name
      (Some entry) fits changed alongside.ports);
  free =
      free_put old.names.current new.names.current old.gaps.current new.gaps.current old.low new.low name entry changed
      (λ q. ap (λ (n : Numbers). has n q) put.gaps ∙ has_removed old.gaps.current name q) alongside.free put.low;
}
  where
    changed : (q : ℕ) → get new.names.current q ≡ cond (eq_by_cmp nat_cmp q name) (Some entry) (get old.names.current q)
    changed q = ap (λ (n : Names). get n q) put.names ∙ get-insert nat_cmp_total old.names.current name entry q

pub removed_stands : (old new : Tables) (name : ℕ) → name < 2 ^ 32
    → StandAlongside old.names.current old.by_port.current old.gaps.current old.low → IsRemoved old new name
    → StandAlongside new.names.current new.by_port.current new.gaps.current new.low
removed_stands old new name fits alongside gone = record {
  bounded = subst AreBounded (sym gone.names) (bounded_remove old.names.current name alongside.bounded);
  ports =
      subst (AreByPort new.names.current) (sym gone.by_port)
      (by_port_changed old.names.current new.names.current old.by_port.current name None fits changed
      alongside.ports);
  free = subst (AreFree new.names.current new.gaps.current) (sym gone.low) (elim gone.gaps [
    | inl gap ↦ free_removed old.names.current new.names.current old.gaps.current new.gaps.current old.low name changed
        (λ q. ap (λ (n : Numbers). has n q) gap.2 ∙ has_inserted old.gaps.current name q) gap.0 gap.1 alongside.free
    | inr none ↦ subst (λ (n : Numbers). AreFree new.names.current n old.low) (sym none.1)
        (free_without old.names.current new.names.current old.gaps.current old.low name changed none.0 alongside.free)
  ]);
}
  where
    changed : (q : ℕ) → get new.names.current q ≡ cond (eq_by_cmp nat_cmp q name) None (get old.names.current q)
    changed q = ap (λ (n : Names). get n q) gone.names ∙ get-remove nat_cmp_total old.names.current name q

-- the entry of a name in use is replaced
pub put_used : (old new : Tables) (name : ℕ) (entry : Entry) (former : Option Entry)
    → AreFree old.names.current old.gaps.current old.low → former ≡ get old.names.current name → is_some former ≡ true
    → new.names.current ≡ insert old.names.current name entry
    → new.by_port.current ≡ with_port (without_port old.by_port.current (option_and_then port_held former) name)
    (port_held entry) name
    → new.gaps ≡ old.gaps → new.low ≡ old.low → IsPut old new name entry
put_used old new name entry None free was used names by_port gaps low = absurd (cc used)
put_used old new name entry (Some former) free was used names by_port gaps low = record {
  names = names;
  by_port =
      by_port ∙ ap (λ (o : Option Entry). with_port
      (without_port old.by_port.current (option_and_then port_held o) name) (port_held entry) name) was;
  gaps =
      ap (λ (t : Tracked (Unit {0})). t.current) gaps
      ∙ no_gap_goes old.names.current old.gaps.current old.low name former entry free (sym was);
  low = subst (λ (n : ℕ). GoesOn new.names.current name old.low n) (sym low)
      (subst (λ (n : Names). GoesOn n name old.low old.low) (sym names)
      (stays_low old.names.current old.gaps.current old.low name former entry free (sym was)));
}

no_number : (q : ℕ) → has empty q ≡ false
no_number q = ap is_some (get-empty nat_cmp q)

no_name : (q : ℕ) → get {X = Entry} {R = nat_cmp} empty q ≡ None
no_name q = get-empty nat_cmp q

pub nothing_stands : StandAlongside empty empty empty 256
nothing_stands = record {
  bounded = bounded_empty;
  ports = λ serial name fits. no_number _ ∙ sym (ap (λ (o : Option Entry). is_held o serial) (no_name name));
  free = record {
    from = omega arith;
    below = λ name from below. absurd (omega (arith, from, below));
    within = λ name there. absurd (cc (sym (no_number name) ∙ there));
    next = no_name 256;
  };
}
  where
    is_held : Option Entry → ℕ → Bool
    is_held o serial = is_number (option_and_then port_held o) serial

-- the invariant of the indexes at the last commit or rollback, and now
pub record Stand (t : Tables) : Type 0 where
  pub before : StandAlongside t.names.before t.by_port.before t.gaps.before t.low_before
  pub current : StandAlongside t.names.current t.by_port.current t.gaps.current t.low

stands_at : (names : Names) (by_port gaps : Numbers) (low : ℕ) (t : Tables) → t.names ≡ at_rest names
    → t.by_port ≡ at_rest by_port → t.gaps ≡ at_rest gaps → t.low ≡ low → t.low_before ≡ low
    → StandAlongside names by_port gaps low → Stand t
stands_at names by_port gaps low t first second third fourth fifth alongside = record {
  before =
      subst (λ (n : ℕ). StandAlongside t.names.before t.by_port.before t.gaps.before n) (sym fifth)
      (subst (λ (g : Tracked (Unit {0})). StandAlongside t.names.before t.by_port.before g.before low) (sym third)
      (subst (λ (b : Tracked (Unit {0})). StandAlongside t.names.before b.before gaps low) (sym second)
      (subst (λ (n : Tracked Entry). StandAlongside n.before by_port gaps low) (sym first) alongside)));
  current =
      subst (λ (n : ℕ). StandAlongside t.names.current t.by_port.current t.gaps.current n) (sym fourth)
      (subst (λ (g : Tracked (Unit {0})). StandAlongside t.names.current t.by_port.current g.current low)
      (sym third)
      (subst (λ (b : Tracked (Unit {0})). StandAlongside t.names.current b.current gaps low) (sym second)
      (subst (λ (n : Tracked Entry). StandAlongside n.current by_port gaps low) (sym first) alongside)));
}

pub new_stand : (new : Tables) → AreNew new → Stand new
new_stand new are =
    stands_at empty empty empty 256 new are.names are.by_port are.gaps are.low are.low_before nothing_stands

pub committed_stand : (old new : Tables) → StandAlongside old.names.current old.by_port.current old.gaps.current old.low
    → AreCommitted old new → Stand new
committed_stand old new alongside are =
    stands_at old.names.current old.by_port.current old.gaps.current old.low new are.names are.by_port are.gaps are.low
    are.low_before alongside

pub rolled_back_stand : (old new : Tables)
    → StandAlongside old.names.before old.by_port.before old.gaps.before old.low_before → AreRolledBack old new
    → Stand new
rolled_back_stand old new alongside are =
    stands_at old.names.before old.by_port.before old.gaps.before old.low_before new are.names are.by_port are.gaps
    are.low are.low_before alongside

pub same_stands : (old new : Tables) → SameBefore old new
    → StandAlongside old.names.before old.by_port.before old.gaps.before old.low_before
    → StandAlongside new.names.before new.by_port.before new.gaps.before new.low_before
same_stands old new same alongside =
    subst (λ (n : ℕ). StandAlongside new.names.before new.by_port.before new.gaps.before n) (sym same.low)
    (subst (λ (g : Numbers). StandAlongside new.names.before new.by_port.before g old.low_before) (sym same.gaps)
    (subst (λ (b : Numbers). StandAlongside new.names.before b old.gaps.before old.low_before) (sym same.by_port)
    (subst (λ (n : Names). StandAlongside n old.by_port.before old.gaps.before old.low_before)
    (sym same.names) alongside)))
