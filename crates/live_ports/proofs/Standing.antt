-- Each change keeps the invariant of the table of ports.
use Rattle.std.proofs.Common.{IfSome, ◌||◌, drop, length-append, ◌≡◌, ℕ, zero, suc, ◌+◌, ◌-◌, ◌<◌, ◌≤◌, ◌^◌, cond, true, false, Bool, List, [], ◌∷◌, ◌++◌, length, Option, None, Some, is_some, option_map, refl, sym, ◌∙◌, ap, subst, arith}
use Rattle.std.specs.List.{list_any}
use Rattle.std.specs.Cmp.{nat_cmp_total}
use Rattle.std.specs.Ordering.{nat_cmp, eq_by_cmp}
use Rattle.std.specs.FinMap.{empty, get, insert, remove, len, get-empty, get-insert, get-remove, len-empty, len-insert, len-remove, empty_of_len}
use Rattle.codes.specs.declared.limits.TheConstants.{MAX_PORTS}
use Rattle.ipc_model.specs.declared.message.Message.{Message}
use Rattle.ipc_model.specs.declared.port.PortState.{PortState}
use Rattle.ipc_model.specs.state.Ipc.{new_port}
use Rattle.ipc_laws.specs.ListLaws.{some_same}
use Rattle.ipc_laws.specs.MapSums.{key_is}
use Rattle.ipc_model.specs.state.Lawful.{AreShort}
use Rattle.live_ports.specs.Changed.{changed, with_message, with_numbers, without_first}
use Rattle.live_ports.specs.PortTable.{TrackedPorts, ports_at_rest}
use Rattle.live_ports.specs.Seen.{Ports, lives_in, seen, seen_message, as_seen, mentions, AreLive, IsBelow}
use Rattle.live_ports.specs.SeenLaws.{get_changed, get_seen, length_mapped, lives_seen}
use Rattle.live_ports.specs.Tables.{former_ports, present_ports, SameBefore, AreNow, AreAtRest, AreSound, AreStanding}
use Rattle.live_ports.specs.declared.port.PortNumbers.{PortNumbers}
use Rattle.live_ports.specs.declared.tables.Tables.{Tables}

same_sound : (p q : Ports) (c d m n : ℕ) → q ≡ p → d ≡ c → n ≡ m → AreSound p c m → AreSound q d n
same_sound p q c d m n ports count next sound =
    subst (λ (r : Ports). AreSound r d n) (sym ports)
    (subst (λ k. AreSound p k n) (sym count) (subst (λ k. AreSound p c k) (sym next) sound))

pub rest_stands : (new : Tables) (raw : Ports) (many serial : ℕ) → AreAtRest new raw many serial
    → AreSound raw many serial → AreStanding new
rest_stands new raw many serial rest sound = record {
  touched = rest.touched;
  before = same_sound raw _ many _ serial _ rest.before rest.count_before rest.next_before sound;
  current = same_sound raw _ many _ serial _ rest.current rest.count rest.next sound;
  ascends = omega (arith, rest.next, rest.next_before);
}

pub rest_view : (new : Tables) (raw : Ports) (many serial : ℕ) → AreAtRest new raw many serial
    → ◌≡◌ {A = TrackedPorts} (record {
      before = record { ports = as_seen (former_ports new.slots); next = new.next_before };
      current = record { ports = as_seen (present_ports new.slots); next = new.next };
    })
    (ports_at_rest (record { ports = as_seen raw; next = serial }))
rest_view new raw many serial rest =
    λ i. record {
      before = record { ports = as_seen (rest.before i); next = rest.next_before i };
      current = record { ports = as_seen (rest.current i); next = rest.next i };
    }

-- the ports at the last commit or rollback keep their invariant
pub former_sound : (old mid : Tables) → AreStanding old → SameBefore old mid
    → AreSound (former_ports mid.slots) mid.count_before mid.next_before
former_sound old mid stands before = same_sound _ _ _ _ _ _ before.ports before.count before.next stands.before

pub now_stands : (old new : Tables) (raw : Ports) (many serial : ℕ) → AreStanding old → SameBefore old new
    → AreNow new raw many serial → AreSound raw many serial → old.next ≤ serial → AreStanding new
now_stands old new raw many serial stands before now sound ascends = record {
  touched = before.touched;
  before = former_sound old new stands before;
  current = same_sound raw _ many _ serial _ now.ports now.count now.next sound;
  ascends = omega (arith, now.next, before.next, stands.ascends, ascends);
}

pub now_view : (old new : Tables) (raw seen : Ports) (many serial : ℕ) → SameBefore old new → AreNow new raw many serial
    → as_seen raw ≡ seen
    → ◌≡◌ {A = TrackedPorts} (record {
      before = record { ports = as_seen (former_ports new.slots); next = new.next_before };
      current = record { ports = as_seen (present_ports new.slots); next = new.next };
    })
    (record {
      before = record { ports = as_seen (former_ports old.slots); next = old.next_before };
      current = record { ports = seen; next = serial };
    })
now_view old new raw seen many serial before now shows =
    let ports : as_seen (present_ports new.slots) ≡ seen = ap as_seen now.ports ∙ shows in
    λ i. record {
      before = record { ports = as_seen (before.ports i); next = before.next i };
      current = record { ports = ports i; next = now.next i };
    }

pub empty_sound : (next : ℕ) → AreSound empty 0 next
empty_sound next =
    record {
      counted = sym (len-empty nat_cmp PortState);
      few = omega arith;
      below = λ key port is. absurd (cc (sym is ∙ get-empty nat_cmp key));
    }

some_len : (ports : Ports) (k : ℕ) → lives_in ports k ≡ true → 0 < len ports
some_len ports k lives = elim (len ports) as (λ (n : ℕ). len ports ≡ n → 0 < n) [
  | zero ↦ λ (none : _). absurd (cc
      (sym lives ∙ ap (λ (m : Ports). is_some (get m k)) (empty_of_len ports none) ∙ ap is_some (get-empty nat_cmp k)))
  | suc n ↦ λ (_ : _). omega arith
] refl

pub some_count : (ports : Ports) (count next k : ℕ) → AreSound ports count next → lives_in (as_seen ports) k ≡ true
    → 0 < count
some_count ports count next k sound lives =
    omega (arith, sound.counted, some_len ports k (sym (lives_seen ports k) ∙ lives))

len_changed : (ports : Ports) (k : ℕ) (f : PortState → PortState) → len (changed ports k f) ≡ len ports
len_changed ports k f = by (get ports k) refl
  where
    by : (o : Option PortState) → get ports k ≡ o
        → len (elim o as (λ _. Ports) [ None ↦ ports | Some port ↦ insert ports k (f port) ]) ≡ len ports
    by None is = refl
    by (Some port) is =
        len-insert nat_cmp_total ports k (f port) ∙ ap
        (λ (o : Option PortState). cond (is_some o) (len ports) (len ports + 1)) is

-- a change of one port that keeps its bounds
pub changed_sound : (ports : Ports) (count next k : ℕ) (f : PortState → PortState)
    → ((port : PortState) → get ports k ≡ Some port → IsBelow next k port → IsBelow next k (f port))
    → AreSound ports count next → AreSound (changed ports k f) count next
changed_sound ports count next k f keeps sound = record {
  counted = sound.counted ∙ sym (len_changed ports k f);
  few = sound.few;
  below =
      λ key port is. by key port (eq_by_cmp nat_cmp key k) refl (get ports k) refl
      (sym (get_changed ports k f key) ∙ is);
}
  where
    by : (key : ℕ) (port : PortState) (b : Bool) → eq_by_cmp nat_cmp key k ≡ b → (o : Option PortState)
        → get ports k ≡ o → cond b (option_map f o) (get ports key) ≡ Some port → IsBelow next key port
    by key port false apart o here is = sound.below key port is
    by key port true same None here is = absurd (cc is)
    by key port true same (Some p) here is =
        subst (λ q. IsBelow next q port) (sym (key_is key k same))
        (subst (IsBelow next k) (some_same (f p) port is) (keeps p here (sound.below k p here)))

pub numbers_sound : (ports : Ports) (count next k : ℕ) (numbers : PortNumbers) → AreSound ports count next
    → AreSound (changed ports k (with_numbers numbers)) count next
numbers_sound ports count next k numbers =
    changed_sound ports count next k (with_numbers numbers)
    (λ port is below. record { within = below.within; mentioned = below.mentioned; short = below.short })

pub removed_sound : (ports : Ports) (count next k : ℕ) → lives_in (as_seen ports) k ≡ true → AreSound ports count next
    → AreSound (remove ports k) (count - 1) next
removed_sound ports count next k lives sound =
    let fewer : len (remove ports k) ≡ len ports - 1 =
    len-remove nat_cmp_total ports k ∙ ap
    (λ (b : Bool). cond b (len ports - 1) (len ports)) (sym (lives_seen ports k) ∙ lives) in
    record {
      counted = omega (arith, fewer, sound.counted);
      few = omega (arith, sound.few);
      below = λ key port is. by key port (eq_by_cmp nat_cmp key k) (sym (get-remove nat_cmp_total ports k key) ∙ is);
    }
  where
    by : (key : ℕ) (port : PortState) (b : Bool) → cond b None (get ports key) ≡ Some port → IsBelow next key port
    by key port true is = absurd (cc is)
    by key port false is = sound.below key port is

-- no port has a serial that wasn't used yet
pub none_at : (ports : Ports) (count next k : ℕ) → AreSound ports count next → next ≤ k → get ports k ≡ None
none_at ports count next k sound past = by (get ports k) refl
  where
    by : (o : Option PortState) → get ports k ≡ o → o ≡ None
    by None is = refl
    by (Some port) is = absurd (omega (arith, past, (sound.below k port is).within))

pub added_sound : (ports : Ports) (count next : ℕ) → AreSound ports count next → count < MAX_PORTS
    → AreSound (insert ports next new_port) (count + 1) (next + 1)
added_sound ports count next sound room =
    let more : len (insert ports next new_port) ≡ len ports + 1 =
    len-insert nat_cmp_total ports next new_port ∙ ap
    (λ (o : Option PortState). cond (is_some o) (len ports) (len ports + 1))
    (none_at ports count next next sound (omega arith)) in
    record {
      counted = omega (arith, more, sound.counted);
      few = omega (arith, room);
      below =
          λ key port is. by key port (eq_by_cmp nat_cmp key next) refl
          (sym (get-insert nat_cmp_total ports next new_port key) ∙ is);
    }
  where
    fresh : IsBelow (next + 1) next new_port
    fresh = record { within = omega arith; mentioned = λ s to. absurd (cc to); short = omega arith }

    by : (key : ℕ) (port : PortState) (b : Bool) → eq_by_cmp nat_cmp key next ≡ b
        → cond b (Some new_port) (get ports key) ≡ Some port → IsBelow (next + 1) key port
    by key port true same is =
        subst (λ q. IsBelow (next + 1) q port) (sym (key_is key next same))
        (subst (IsBelow (next + 1) next) (some_same new_port port is) fresh)
    by key port false apart is =
        let below =
        sound.below key port is in record {
          within = omega (arith, below.within);
          mentioned = λ s to. omega (arith, below.mentioned s to);
          short = below.short;
        }

-- the next serial is increased
pub later_sound : (ports : Ports) (count next later : ℕ) → AreSound ports count next → next ≤ later
    → AreSound ports count later
later_sound ports count next later sound past = record {
  counted = sound.counted;
  few = sound.few;
  below = λ key port is.
      let below =
      sound.below key port is in record {
        within = omega (arith, below.within);
        mentioned = λ s to. omega (arith, below.mentioned s to);
        short = below.short;
      };
}

last_true : (b : Bool) → (b || false) ≡ true → b ≡ true
last_true true e = refl
last_true false e = absurd (cc e)

-- if a predicate holds of none of a list, but of some element of the list with one more, it holds of that one
last_holds : {A : Type 0} (p : A → Bool) (xs : List A) (y : A) → list_any p (xs ++ y ∷ []) ≡ true
    → list_any p xs ≡ false → p y ≡ true
last_holds p [] y some none = last_true (p y) some
last_holds p (x ∷ xs) y some none =
    elim (p x) as (λ (b : Bool). (b || list_any p (xs ++ y ∷ [])) ≡ true → (b || list_any p xs) ≡ false → p y ≡ true) [
      | true ↦ λ (e : _) (f : _). absurd (cc f)
      | false ↦ λ (e : _) (f : _). last_holds p xs y e f
    ] some none

-- a message whose rights are to live ports is appended to a queue with room for it
pub pushed_sound : (ports : Ports) (count next k : ℕ) (message : Message) → AreLive (as_seen ports) message
    → IfSome (get ports k) (λ port. length port.messages < 2 ^ 32 - 1) → AreSound ports count next
    → AreSound (changed ports k (with_message message)) count next
pushed_sound ports count next k message live room sound =
    changed_sound ports count next k (with_message message) keeps sound
  where
    alive : (s : ℕ) (o : Option PortState) → get ports s ≡ o → is_some o ≡ true → s < next
    alive s None is there = absurd (cc there)
    alive s (Some port) is there = (sound.below s port is).within

    small : (port : PortState) → IsBelow next k port → (s : ℕ)
        → list_any (mentions s) (port.messages ++ message ∷ []) ≡ true → (b : Bool)
        → list_any (mentions s) port.messages ≡ b → s < next
    small port below s to true is = below.mentioned s is
    small port below s to false is =
        alive s (get ports s) refl (sym (lives_seen ports s)
        ∙ live s (last_holds (mentions s) port.messages message to is))

    keeps : (port : PortState) → get ports k ≡ Some port → IsBelow next k port
        → IsBelow next k (with_message message port)
    keeps port is below =
        let shorter : length port.messages < 2 ^ 32 - 1 =
        subst (λ (o : Option PortState). IfSome o (λ port. length port.messages < 2 ^ 32 - 1)) is room in
        record {
          within = below.within;
          mentioned = λ s to. small port below s to (list_any (mentions s) port.messages) refl;
          short = omega (arith, shorter, length-append port.messages (message ∷ []));
        }

front_holds : (a b : Bool) → b ≡ true → (a || b) ≡ true
front_holds true b e = refl
front_holds false b e = e

after_holds : {A : Type 0} (p : A → Bool) (xs : List A) → list_any p (drop 1 xs) ≡ true → list_any p xs ≡ true
after_holds p [] some = some
after_holds p (x ∷ xs) some = front_holds (p x) (list_any p xs) some

after_shorter : {A : Type 0} (xs : List A) → length (drop 1 xs) ≤ length xs
after_shorter [] = omega arith
after_shorter (x ∷ xs) = omega arith

-- a message is removed from a queue
pub taken_sound : (ports : Ports) (count next k : ℕ) → AreSound ports count next
    → AreSound (changed ports k without_first) count next
taken_sound ports count next k = changed_sound ports count next k without_first (λ port is below. record {
  within = below.within;
  mentioned = λ s to. below.mentioned s (after_holds (mentions s) port.messages to);
  short = omega (arith, below.short, after_shorter port.messages);
})

short_option : (o p : Option PortState) (f : PortState → PortState) (port : PortState) → p ≡ option_map f o
    → p ≡ Some port → (from : PortState) → o ≡ Some from → port ≡ f from
short_option o p f port at is from was = some_same port (f from) (sym is ∙ at ∙ ap (option_map f) was)

pub seen_short : (raw : Ports) (count next : ℕ) → AreSound raw count next → AreShort (as_seen raw)
seen_short raw count next sound serial port is = by (get raw serial) refl
  where
    by : (o : Option PortState) → get raw serial ≡ o → length port.messages < 2 ^ 32
    by None none = absurd (cc (sym is ∙ get_seen raw serial ∙ ap (option_map (seen (lives_in raw))) none))
    by (Some from) was =
        let same =
        ap (λ (p : PortState). length p.messages)
        (short_option (get raw serial) (get (as_seen raw) serial) (seen (lives_in raw)) port
        (get_seen raw serial) is from was) in
        omega (
          arith,
          same,
          length_mapped (seen_message (lives_in raw)) from.messages,
          (sound.below serial from was).short,
        )
