-- The tallies of a snapshot are those of its state's rights, by port.
use Rattle.std.proofs.Common.{◌≡◌, ℕ, ◌+◌, Bool, true, false, cond, List, [], ◌∷◌, Option, None, Some, refl, sym, ◌∙◌, ap, arith, eqb-true}
use Rattle.std.specs.Prelude.{◌==◌, ◌&&◌, flat_map, count_by, find, option_map}
use Rattle.std.specs.Cmp.{nat_cmp_total, eq_by_cmp_equiv, unsigned_tied}
use Rattle.std.specs.FinMap as finmap
use Rattle.std.specs.FinMap.{get-insert}
use Rattle.std.specs.Option.{option_or, unwrap_or}
use Rattle.std.proofs.lemmas.List.Sums.{sum_by-cons}
use Rattle.ipc_model.specs.declared.entry.Entry.{Entry}
use Rattle.ipc_model.specs.declared.message.RightKind.{RightKind}
use Rattle.ipc_model.specs.declared.message.RightKind.TheVariants as kind
use Rattle.ipc_model.specs.state.Placed.{Right, rights_of_entry, rights_of_space, placed, same_kind}
use Rattle.ipc_model.specs.state.Ipc.{Ipc, Names}
use Rattle.snapshot.specs.Snapshots.{ipc_snapshot_of}
use Rattle.inspect.specs.declared.text.standing.Standing.{Standing}
use Rattle.inspect.specs.declared.text.tally.Tally.{Tally}
use Rattle.inspect.specs.text.Gathering.{Notes, no_rights, tally_of, with_right, noted, gathered}
use Rattle.inspect.specs.text.Listing.{references_of}
use Rattle.inspect.proofs.text.Walked.{standing_of, as_seen, all_seen, seen-append, names_all_seen, spaces_all_seen, kept_rights, snapshot_is}

-- rights that are added to the tallies one after another
abbrev pub all_noted : List Right → Notes → Notes
all_noted rights notes = all_seen noted 0 rights notes

-- the tallies don't depend on references
noted_alike : (references : ℕ) (right : Right) (notes : Notes)
    → noted (as_seen references right) notes ≡ noted (as_seen 0 right) notes
unfolding noted
noted_alike references right notes = refl

all_alike : (references : ℕ) (rights : List Right) (notes : Notes)
    → all_seen noted references rights notes ≡ all_noted rights notes
all_alike references [] notes = refl
all_alike references (right ∷ rest) notes =
    all_alike references rest (noted (as_seen references right) notes)
    ∙ ap (all_noted rest) (noted_alike references right notes)

names_noted : (space : ℕ) (es : List (ℕ × Entry)) (notes : Notes)
    → names_all_seen noted space es notes ≡ all_noted (flat_map (λ e. rights_of_entry space e.0 e.1) es) notes
names_noted space [] notes = refl
names_noted space (e ∷ es) notes =
    ap (names_all_seen noted space es) (all_alike (references_of e.1) (rights_of_entry space e.0 e.1) notes)
    ∙ names_noted space es (all_noted (rights_of_entry space e.0 e.1) notes)
    ∙ sym (seen-append noted 0 (rights_of_entry space e.0 e.1) (flat_map (λ f. rights_of_entry space f.0 f.1) es) notes)

spaces_noted : (es : List (ℕ × Names)) (notes : Notes)
    → spaces_all_seen noted es notes ≡ all_noted (flat_map (λ e. rights_of_space e.0 e.1) es) notes
spaces_noted [] notes = refl
spaces_noted (e ∷ es) notes =
    ap (spaces_all_seen noted es) (names_noted e.0 (finmap.entries e.1) notes)
    ∙ spaces_noted es (all_noted (rights_of_space e.0 e.1) notes)
    ∙ sym (seen-append noted 0 (rights_of_space e.0 e.1) (flat_map (λ f. rights_of_space f.0 f.1) es) notes)

-- the tallies of a snapshot are those of all rights of its state
pub gathered_is : (state : Ipc) → gathered (ipc_snapshot_of state) ≡ all_noted (placed state) finmap.empty
unfolding gathered placed
gathered_is state =
    let first : List Right = flat_map (λ e. rights_of_space e.0 e.1) (finmap.entries state.spaces) in
    let second : List Right = kept_rights (finmap.entries state.ports) in
    snapshot_is noted state finmap.empty
    ∙ ap (all_noted second) (spaces_noted (finmap.entries state.spaces) finmap.empty)
    ∙ sym (seen-append noted 0 first second finmap.empty)

-- The rights to a port that a tally counts.

tally_noted : (k : RightKind) (port : ℕ) (standing : Standing) (references : ℕ) (notes : Notes) (serial : ℕ)
    → tally_of (noted (record { kind = k; port = port; standing = standing; references = references }) notes) serial
    ≡ cond (port == serial) (with_right k standing (tally_of notes port)) (tally_of notes serial)
unfolding noted
tally_noted k port standing references notes serial =
    let tally : Tally = with_right k standing (tally_of notes port) in
    ap (λ (o : Option Tally). unwrap_or o no_rights) (get-insert nat_cmp_total notes port tally serial
    ∙ ap (λ (b : Bool). cond b (Some tally) (finmap.get notes serial))
    (sym ((eq_by_cmp_equiv nat_cmp_total).symm port serial) ∙ unsigned_tied port serial))
    ∙ elim (port == serial) as (λ (b : Bool). unwrap_or (cond b (Some tally) (finmap.get notes serial)) no_rights
    ≡ cond b tally (tally_of notes serial)) [ true ↦ refl | false ↦ refl ]

-- a port's tally, with those of these rights that are to this port
abbrev pub tallied : ℕ → List Right → Tally → Tally
tallied serial [] tally = tally
tallied serial (right ∷ rest) tally =
    tallied serial rest (cond (right.port == serial) (with_right right.kind (standing_of right.place) tally) tally)

same_port : (k : RightKind) (port serial : ℕ) (standing : Standing) (notes : Notes)
    → cond (port == serial) (with_right k standing (tally_of notes port)) (tally_of notes serial)
    ≡ cond (port == serial) (with_right k standing (tally_of notes serial)) (tally_of notes serial)
same_port k port serial standing notes =
    elim (port == serial) as (λ (b : Bool). port == serial ≡ b
    → cond b (with_right k standing (tally_of notes port)) (tally_of notes serial)
    ≡ cond b (with_right k standing (tally_of notes serial)) (tally_of notes serial)) [
      | true ↦ λ (same : _). ap (λ n. with_right k standing (tally_of notes n)) (eqb-true port serial same)
      | false ↦ λ (apart : _). refl
    ] refl

pub tally_of_all : (serial : ℕ) (rights : List Right) (notes : Notes)
    → tally_of (all_noted rights notes) serial ≡ tallied serial rights (tally_of notes serial)
tally_of_all serial [] notes = refl
tally_of_all serial (right ∷ rest) notes =
    tally_of_all serial rest (noted (as_seen 0 right) notes)
    ∙ ap (tallied serial rest) (tally_noted right.kind right.port (standing_of right.place)
    (as_seen 0 right).references notes serial
    ∙ same_port right.kind right.port serial (standing_of right.place) notes)

send_step : (k : RightKind) (own : Bool) (standing : Standing) (tally : Tally)
    → (cond own (with_right k standing tally) tally).send ≡ tally.send + cond (same_kind k kind.Send && own) 1 0
send_step kind.Receive true standing tally = omega arith
send_step kind.Receive false standing tally = omega arith
send_step kind.Send true standing tally = refl
send_step kind.Send false standing tally = omega arith
send_step kind.SendOnce true standing tally = omega arith
send_step kind.SendOnce false standing tally = omega arith

pub send_tallied : (serial : ℕ) (rights : List Right) (tally : Tally)
    → (tallied serial rights tally).send ≡ tally.send + count_by
    (λ (r : Right). same_kind r.kind kind.Send && r.port == serial) rights
send_tallied serial [] tally = omega arith
send_tallied serial (right ∷ rest) tally =
    let own : Bool = right.port == serial in
    let next : Tally = cond own (with_right right.kind (standing_of right.place) tally) tally in
    let is_own : Right → Bool = λ r. same_kind r.kind kind.Send && r.port == serial in
    let later : (tallied serial (right ∷ rest) tally).send ≡ next.send + count_by is_own rest =
    send_tallied serial rest next in
    let all : count_by is_own (right ∷ rest) ≡ cond (is_own right) 1 0 + count_by is_own rest =
    sum_by-cons (λ r. cond (is_own r) 1 0) right rest in
    let step : next.send ≡ tally.send + cond (is_own right) 1 0 =
    send_step right.kind own (standing_of right.place) tally in
    later ∙ (omega (arith, all, step))

send_once_step : (k : RightKind) (own : Bool) (standing : Standing) (tally : Tally)
    → (cond own (with_right k standing tally) tally).send_once
    ≡ tally.send_once + cond (same_kind k kind.SendOnce && own) 1 0
send_once_step kind.Receive true standing tally = omega arith
send_once_step kind.Receive false standing tally = omega arith
send_once_step kind.Send true standing tally = omega arith
send_once_step kind.Send false standing tally = omega arith
send_once_step kind.SendOnce true standing tally = refl
send_once_step kind.SendOnce false standing tally = omega arith

pub send_once_tallied : (serial : ℕ) (rights : List Right) (tally : Tally)
    → (tallied serial rights tally).send_once ≡ tally.send_once + count_by
    (λ (r : Right). same_kind r.kind kind.SendOnce && r.port == serial) rights
send_once_tallied serial [] tally = omega arith
send_once_tallied serial (right ∷ rest) tally =
    let own : Bool = right.port == serial in
    let next : Tally = cond own (with_right right.kind (standing_of right.place) tally) tally in
    let is_own : Right → Bool = λ r. same_kind r.kind kind.SendOnce && r.port == serial in
    let later : (tallied serial (right ∷ rest) tally).send_once ≡ next.send_once + count_by is_own rest =
    send_once_tallied serial rest next in
    let all : count_by is_own (right ∷ rest) ≡ cond (is_own right) 1 0 + count_by is_own rest =
    sum_by-cons (λ r. cond (is_own r) 1 0) right rest in
    let step : next.send_once ≡ tally.send_once + cond (is_own right) 1 0 =
    send_once_step right.kind own (standing_of right.place) tally in
    later ∙ (omega (arith, all, step))

abbrev is_own_receive : ℕ → Right → Bool
is_own_receive serial right = same_kind right.kind kind.Receive && right.port == serial

abbrev standing_of_right : Right → Standing
standing_of_right right = standing_of right.place

receive_step : (k : RightKind) (own : Bool) (standing : Standing) (tally : Tally)
    → (cond own (with_right k standing tally) tally).receive
    ≡ cond (same_kind k kind.Receive && own) (option_or tally.receive (Some standing)) tally.receive
receive_step kind.Receive true standing tally = refl
receive_step kind.Receive false standing tally = refl
receive_step kind.Send true standing tally = refl
receive_step kind.Send false standing tally = refl
receive_step kind.SendOnce true standing tally = refl
receive_step kind.SendOnce false standing tally = refl

or_none : (o : Option Standing) → option_or o None ≡ o
or_none None = refl
or_none (Some s) = refl

-- the first receive right that is found stays
found : (b : Bool) (o : Option Standing) (first : Right) (rest : Option Right)
    → option_or (cond b (option_or o (Some (standing_of_right first))) o) (option_map standing_of_right rest)
    ≡ option_or o (option_map standing_of_right (cond b (Some first) rest))
found true None first rest = refl
found true (Some s) first rest = refl
found false o first rest = refl

pub receive_tallied : (serial : ℕ) (rights : List Right) (tally : Tally)
    → (tallied serial rights tally).receive
    ≡ option_or tally.receive (option_map standing_of_right (find (is_own_receive serial) rights))
receive_tallied serial [] tally = sym (or_none tally.receive)
receive_tallied serial (right ∷ rest) tally =
    let next : Tally = cond (right.port == serial) (with_right right.kind (standing_of right.place) tally) tally in
    receive_tallied serial rest next
    ∙ ap (λ (o : Option Standing). option_or o (option_map standing_of_right (find (is_own_receive serial) rest)))
    (receive_step right.kind (right.port == serial) (standing_of right.place) tally)
    ∙ found (is_own_receive serial right) tally.receive right (find (is_own_receive serial) rest)
