use Rattle.std.proofs.Common.{◌≡◌, ℕ, Some, option_map, refl, ap, sym, subst, ◌∙◌, arith}
use Rattle.std.specs.Ordering.{nat_cmp}
use Rattle.std.specs.FinMap as finmap
use Rattle.std.specs.FinMap.{len-empty}
use Rattle.ipc_model.specs.declared.entry.Entry.{Entry}
use Rattle.ipc_model.specs.rights.CopyOut.{MayArrive, names_after}
use Rattle.ipc_model.specs.calls.PortCalls.{names_in}
use Rattle.ipc_model.specs.state.Ipc.{Ipc, Names, with_names}
use Rattle.rights.specs.Passed.{Running}
use Rattle.rights.specs.Passed.{added_there, names_added, added_again}
use Rattle.port_calls.proofs.space_calls.add_child.Goals as goal

abbrev without : Names
without = finmap.empty

-- a space that was added without names
module _ (state after : Ipc) (number : ℕ) (names : Names) (none : names ≡ without)
    (added : after ≡ with_names state number names) where
  is_added : after ≡ with_names state number without
  is_added = added ∙ ap (with_names state number) none

  has_none : names_in after number ≡ without
  has_none = ap (λ (s : Ipc). names_in s number) is_added ∙ names_added state number without

  is_there : finmap.get after.spaces number ≡ Some without
  is_there = ap (λ (s : Ipc). finmap.get s.spaces number) is_added ∙ added_there state number without

  has_few : finmap.len (names_in after number) ≡ 0
  has_few = ap (λ (n : Names). finmap.len n) has_none ∙ len-empty nat_cmp Entry

  gets : (new : Ipc) (others : Names) → new ≡ with_names after number others → new ≡ with_names state number others
  gets new others is =
      is ∙ ap (λ (s : Ipc). with_names s number others) is_added ∙ added_again state number without others

pair_same : {A B : Type 0} {a c : A} {b d : B} → a ≡ c → b ≡ d → ◌≡◌ {A = A × B} (a, b) (c, d)
pair_same e f = cc (e, f)

pub put_right-requires : goal.put_right-requires
put_right-requires c = record {
  room = λ (none : _).
      let few =
      has_few c.args.state.now.current c.add_space.new.self.current c.space_number-number.result without refl
      (ap (λ (r : Running). r.current) c.in_ok-add_space.ensures.ok) in
      omega (arith, few);
}

pub returns-clause-name : goal.returns-clause-name
returns-clause-name c =
    subst (λ (n : Names). MayArrive n c.args.right.kind c.args.right.port c.arrival_needed-name.result)
    (has_none c.args.state.now.current c.add_space.new.self.current c.space_number-number.result without refl
    (ap (λ (r : Running). r.current) c.in_ok-add_space.ensures.ok)) c.arrival_needed-name.ensures.may

pub returns-clause-state : goal.returns-clause-state
returns-clause-state c =
    gets c.args.state.now.current c.add_space.new.self.current c.space_number-number.result without refl
    (ap (λ (r : Running). r.current) c.in_ok-add_space.ensures.ok) c.put_right.new.state.current
    (names_after without c.args.right.kind c.args.right.port c.arrival_needed-name.result)
    (c.in_ok-put_right.ensures.ok without
    (is_there c.args.state.now.current c.add_space.new.self.current c.space_number-number.result without refl
    (ap (λ (r : Running). r.current) c.in_ok-add_space.ensures.ok)))

pub returns-clause-wanted : goal.returns-clause-wanted
returns-clause-wanted c = λ number name is unused may.
    let here : names_in c.add_space.new.self.current c.space_number-number.result ≡ without =
    has_none c.args.state.now.current c.add_space.new.self.current c.space_number-number.result without refl
    (ap (λ (r : Running). r.current) c.in_ok-add_space.ensures.ok) in
    pair_same (c.space_number-number.ensures.wanted number
    (c.unzip-wanted_number.ensures.first ∙ ap (option_map (λ (p : ℕ × ℕ). p.0)) is) unused)
    (c.arrival_needed-name.ensures.wanted name
    (c.unzip-wanted_number.ensures.second ∙ ap (option_map (λ (p : ℕ × ℕ). p.1)) is)
    (subst (λ (n : Names). MayArrive n c.args.right.kind c.args.right.port name) (sym here) may))
