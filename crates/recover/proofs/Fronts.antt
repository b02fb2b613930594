-- The header that the front of a slot contains is the slot's header.
use Rattle.std.proofs.Common.{◌≡◌, inl, inr, ℕ, ◌+◌, ◌≤◌, ◌<◌, ◌%◌, ◌^◌, List, ◌++◌, length, take, drop, refl, sym, ap, ◌∙◌, arith, append_assoc, take-append-drop, length-take}
use Rattle.std.specs.Prelude.{slice_index, ◌-◌, min, Option, Some, None, IfNone}
use Rattle.std.proofs.Math.Seq.{take-append-add}
use Rattle.std.proofs.lemmas.List.{take-take, get_or-take, take_at, take_all}
use Rattle.std.proofs.lemmas.Bool.{cases_lt}
use Rattle.codes.specs.StoreVersion.{version_number}
use Rattle.codes.specs.declared.store_version.StoreVersion.{StoreVersion}
use Rattle.ipc_laws.specs.RecoveryLaws.{same_version}
use Rattle.ipc_model.specs.store.Recovery.{IsOfEpoch, IsOpen, version_of}
use Rattle.ipc_model.specs.store.Store.{segment_header_of, open_gate}
use Rattle.words.specs.Words.{long_word}
use Rattle.recover.specs.Headers.{Says, version_front}
use Rattle.recover.specs.declared.headers.Header.{Header}
use Rattle.recover.specs.declared.headers.Header.TheVariants.{Closed, Open, OtherVersion, Unreadable}

front_open : (header n : ℕ) (slot : List ℕ) → header ≤ n → 1 ≤ n → IsOpen header slot → IsOpen header (take n slot)
front_open header n slot fits one is_open =
    (omega (arith, length-take n slot, is_open.0), take-take 1 n slot one ∙ is_open.1)

open_front : (header n : ℕ) (slot : List ℕ) → 1 ≤ n → IsOpen header (take n slot) → IsOpen header slot
open_front header n slot one is_open =
    (omega (arith, length-take n slot, is_open.0), sym (take-take 1 n slot one) ∙ is_open.1)

front_has : (n : ℕ) (slot : List ℕ) → 2 ≤ n → slice_index (take n slot) 1 ≡ slice_index slot 1
front_has n slot two = get_or-take n slot 1 0 two

-- a header at the front is the slot's header
front_of_epoch : (number epoch n : ℕ) (slot : List ℕ) → IsOfEpoch number epoch (take n slot)
    → IsOfEpoch number epoch slot
front_of_epoch number epoch n slot is = record {
  version = is.version;
  rest = is.rest ++ drop n slot;
  encoding =
      sym (take-append-drop n slot) ∙ ap (λ l. l ++ drop n slot) is.encoding
      ∙ append_assoc (segment_header_of is.version open_gate epoch) is.rest (drop n slot);
  fits = is.fits;
  of_number = is.of_number;
}

-- the slot's header is at the front, if the front is long enough
epoch_of_front : (number epoch n : ℕ) (slot : List ℕ) → 16 ≤ n → IsOfEpoch number epoch slot
    → IsOfEpoch number epoch (take n slot)
epoch_of_front number epoch n slot whole is =
    let apart : n ≡ 16 + (n - 16) = omega arith in
    let header = segment_header_of is.version open_gate epoch in
    record {
      version = is.version;
      rest = take (n - 16) is.rest;
      encoding =
          ap (take n) is.encoding ∙ ap (λ k. take k (header ++ is.rest)) apart
          ∙ take-append-add header is.rest (n - 16);
      fits = is.fits;
      of_number = is.of_number;
    }

pub says_of_front : (header n : ℕ) (slot : List ℕ) (said : Header) → header ≤ n → 16 ≤ n
    → Says header (take n slot) said → Says header slot said
says_of_front header n slot Closed fits whole says =
    λ is_open. says (front_open header n slot fits (omega arith) is_open)
says_of_front header n slot (Open epoch) fits whole says =
    (open_front header n slot (omega arith) says.0, front_of_epoch (epoch % 2) epoch n slot says.1)
says_of_front header n slot OtherVersion fits whole says = (
  open_front header n slot (omega arith) says.0,
  λ version is. says.1 version (is ∙ sym (front_has n slot (omega arith))),
)
says_of_front header n slot Unreadable fits whole says = (
  open_front header n slot (omega arith) says.0,
  λ other. says.1 (
    front_open header n slot fits (omega arith) other.0,
    λ version is. other.1 version (is ∙ front_has n slot (omega arith)),
  ),
  λ number epoch is. says.2 number epoch (epoch_of_front number epoch n slot whole is),
)

-- the front of a slot that was read
pub front_read : (slot buffer old : List ℕ) (n : ℕ) → n ≡ min 24 (length slot - 0)
    → buffer ≡ take n (drop 0 slot) ++ drop n old → take n buffer ≡ take 24 slot
front_read slot buffer old n count bytes =
    let long : length (take n slot) ≡ n = omega (arith, length-take n slot, count) in
    let front : take n buffer ≡ take n slot = ap (take n) bytes ∙ take_at (take n slot) (drop n old) n long in
    elim (cases_lt (length slot) 24) as (λ _. take n buffer ≡ take 24 slot) [
      | inl short ↦ front ∙ take_all n slot (omega (arith, count, short))
          ∙ sym (take_all 24 slot (omega (arith, short)))
      | inr whole ↦ let all : n ≡ 24 = omega (arith, count, whole) in front ∙ ap (λ k. take k slot) all
    ]

-- an epoch after the front of a header
pub epoch_after : (slot rest beyond : List ℕ) (epoch : ℕ)
    → (version : StoreVersion) × (slot ≡ version_front version ++ rest)
    → rest ≡ long_word epoch ++ beyond → epoch < 2 ^ 64 → IsOfEpoch (epoch % 2) epoch slot
epoch_after slot rest beyond epoch first second fits = record {
  version = first.0;
  rest = beyond;
  encoding = first.1 ∙ ap (λ l. version_front first.0 ++ l) second;
  fits = fits;
  of_number = refl;
}

-- the version in a header is the slot's
pub header_version : (number epoch : ℕ) (slot : List ℕ) (v : StoreVersion) → (is : IsOfEpoch number epoch slot)
    → version_of slot ≡ version_number v → is.version ≡ v
header_version number epoch slot v is says =
    same_version is.version v (sym (ap (λ (l : List ℕ). slice_index l 1) is.encoding) ∙ says)

pub if_none : {T : Type 0} (P : Type 0) (o : Option T) → P → IfNone o P
if_none P (Some v) holds = tt
if_none P None holds = holds
