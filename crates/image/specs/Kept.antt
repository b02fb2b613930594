-- Spaces and their kept replies as rows.
use Rattle.std.specs.Prelude.{◌≡◌, ◌⊎◌, ℕ, suc, ◌+◌, ◌^◌, ◌<◌, List, [], ◌∷◌, ◌++◌, length, map, Option, None, Some, IfSome, IsSomeAnd, refl}
use Rattle.std.proofs.Common.{Bor, ◌∙◌, ap, sym, subst, inl, inr, arith, append_assoc}
use Rattle.codes.specs.StoreVersion.{current}
use Rattle.codes.specs.declared.store_version.StoreVersion.{StoreVersion}
use Rattle.image.specs.Fitting.{FitsKept, FitsRow, FitsSpace}
use Rattle.image.specs.Taking.{TakenSoFar, Leads, LeadsNone, one_more_so_far}
use Rattle.ipc_laws.specs.EncodingLaws.{word_once}
use Rattle.ipc_model.specs.encodings.Encodings.{numbered_encoding}
use Rattle.ipc_model.specs.encodings.Images.{kept_encoding}
use Rattle.ipc_model.specs.state.LawfulState.{IsKeptReply}
use Rattle.words.specs.Words.{word, frame_encoding}
use Rattle.ipc_model.specs.declared.reply.NumberedReply.{NumberedReply}
use Rattle.image.specs.Rows.{Row, row_encoding_of, rows_of}
use Rattle.snapshot.specs.declared.rows.Space.{Space}

space_in : Row → Space
space_in row = row.space

kept_in : Row → Option NumberedReply
kept_in row = row.kept

spaces_back : (spaces : List Space) (kept : List (Option NumberedReply)) → map space_in (rows_of spaces kept) ≡ spaces
unfolding space_in
spaces_back [] kept = refl
spaces_back (space ∷ spaces) [] = ap (λ (l : List Space). space ∷ l) (spaces_back spaces [])
spaces_back (space ∷ spaces) (first ∷ kept) = ap (λ (l : List Space). space ∷ l) (spaces_back spaces kept)

kept_back : (spaces : List Space) (kept : List (Option NumberedReply)) → length kept ≡ length spaces
    → map kept_in (rows_of spaces kept) ≡ kept
unfolding kept_in
kept_back [] [] same = refl
kept_back [] (first ∷ kept) same = absurd (omega (arith, same))
kept_back (space ∷ spaces) [] same = absurd (omega (arith, same))
kept_back (space ∷ spaces) (first ∷ kept) same =
    ap (λ (l : List (Option NumberedReply)). first ∷ l) (kept_back spaces kept (omega (arith, same)))

pub length-rows : (spaces : List Space) (kept : List (Option NumberedReply))
    → length (rows_of spaces kept) ≡ length spaces
length-rows [] kept = refl
length-rows (space ∷ spaces) [] = ap suc (length-rows spaces [])
length-rows (space ∷ spaces) (first ∷ kept) = ap suc (length-rows spaces kept)

-- equal rows have equal spaces and equal kept replies
pub same_rows : (spaces others : List Space) (kept kept_too : List (Option NumberedReply))
    → length kept ≡ length spaces → length kept_too ≡ length others → rows_of spaces kept ≡ rows_of others kept_too
    → (spaces ≡ others) × (kept ≡ kept_too)
same_rows spaces others kept kept_too long long_too same = (
  sym (spaces_back spaces kept) ∙ ap (map space_in) same ∙ spaces_back others kept_too,
  sym (kept_back spaces kept long) ∙ ap (map kept_in) same ∙ kept_back others kept_too long_too,
)

-- a space and its kept reply are appended as one row
pub rows_push : (spaces : List Space) (kept : List (Option NumberedReply)) (space : Space)
    (last : Option NumberedReply) → length kept ≡ length spaces
    → rows_of (spaces ++ space ∷ []) (kept ++ last ∷ [])
    ≡ rows_of spaces kept ++ record { space = space; kept = last } ∷ []
rows_push [] [] space last same = refl
rows_push [] (first ∷ kept) space last same = absurd (omega (arith, same))
rows_push (one ∷ spaces) [] space last same = absurd (omega (arith, same))
rows_push (one ∷ spaces) (first ∷ kept) space last same =
    ap (λ (l : List Row). record { space = one; kept = first } ∷ l)
    (rows_push spaces kept space last (omega (arith, same)))

-- The bytes say that a space keeps no reply.
abbrev pub KeepsNothing : ℕ → Option NumberedReply → List ℕ → List ℕ → Type 0
KeepsNothing request kept beyond rest = (request ≡ 0) × (kept ≡ None) × (beyond ≡ rest)

-- The bytes say that a space keeps a reply, whose frame follows its request.
abbrev pub KeepsReply : ℕ → Option NumberedReply → List ℕ → List ℕ → Type 0
KeepsReply request kept beyond rest =
    (reply : NumberedReply) × (0 < request) × (kept ≡ Some reply) × (reply.request ≡ request) × IsKeptReply reply
    × (beyond ≡ frame_encoding (numbered_encoding reply) ++ rest)

pub kept_front : (kept : Option NumberedReply) (request : ℕ) (bytes beyond rest : List ℕ) → FitsKept current kept
    → request < 2 ^ 32 → bytes ≡ word request ++ beyond → bytes ≡ kept_encoding current kept ++ rest
    → KeepsNothing request kept beyond rest ⊎ KeepsReply request kept beyond rest
kept_front None request bytes beyond rest fits small is is_too =
    let parts = word_once request 0 beyond rest small (omega arith) (sym is ∙ is_too) in
    inl (parts.0, refl, parts.1)
kept_front (Some reply) request bytes beyond rest fits small is is_too =
    let parts =
    word_once request reply.request beyond (frame_encoding (numbered_encoding reply) ++ rest) small fits.request.1
    (sym is ∙ is_too ∙ append_assoc (word reply.request) (frame_encoding (numbered_encoding reply)) rest) in
    inr (reply, omega (arith, parts.0, fits.request.0), refl, sym parts.0, fits, parts.1)

-- one more space was decoded, with its kept reply
pub one_more_kept : (version : StoreVersion) (whole : List ℕ) (count : ℕ) (spaces : List Space)
    (kept : List (Option NumberedReply)) (longer : List Space) (longer_too : List (Option NumberedReply))
    (left : List ℕ) (space : Space) (last : Option NumberedReply) (beyond : List ℕ) (taken : ℕ) → taken < count
    → length kept ≡ length spaces → longer ≡ spaces ++ space ∷ [] → longer_too ≡ kept ++ last ∷ []
    → TakenSoFar (row_encoding_of version) (FitsRow version) whole count (rows_of spaces kept) left taken
    → Leads (row_encoding_of version) (FitsRow version) left (record { space = space; kept = last }) beyond
    → TakenSoFar (row_encoding_of version) (FitsRow version) whole count (rows_of longer longer_too) beyond (taken + 1)
one_more_kept version whole count spaces kept longer longer_too left space last beyond taken fewer same is is_too so_far
    leads =
    one_more_so_far (row_encoding_of version) (FitsRow version) whole count (rows_of spaces kept)
    (rows_of longer longer_too) left (record { space = space; kept = last }) beyond taken fewer
    ((λ i. rows_of (is i) (is_too i)) ∙ rows_push spaces kept space last same) so_far leads

-- The result of the reader of a space.
abbrev pub ReadsSpace : StoreVersion → List ℕ → Option (Space × Option NumberedReply × Bor (List ℕ)) → Type 0
ReadsSpace version bytes found =
    IfSome found (λ r. (bytes ≡ row_encoding_of version (record { space = r.0; kept = r.1 }) ++ r.2.now)
    × FitsSpace r.0 × FitsKept version r.1)
    × ((space : Space) (kept : Option NumberedReply) (rest : List ℕ) → FitsSpace space → FitsKept version kept
    → bytes ≡ row_encoding_of version (record { space = space; kept = kept }) ++ rest
    → IsSomeAnd found (λ r. (r.0 ≡ space) × (r.1 ≡ kept) × (r.2.now ≡ rest)))

pub leads_space : (version : StoreVersion) (bytes : List ℕ) (found : Option (Space × Option NumberedReply × Bor (List ℕ)))
    (space : Space) (kept : Option NumberedReply) (beyond : Bor (List ℕ)) → found ≡ Some (space, kept, beyond)
    → ReadsSpace version bytes found
    → Leads (row_encoding_of version) (FitsRow version) bytes (record { space = space; kept = kept }) beyond.now
leads_space version bytes found space kept beyond is reads =
    let some = subst (ReadsSpace version bytes) is reads in (
      some.0.0,
      (some.0.1, some.0.2),
      λ (row : Row) (rest : List ℕ) (fits : _) (same : _).
          let parts = some.1 row.space row.kept rest fits.0 fits.1 same in
          ((λ i. record { space = parts.0 i; kept = parts.1 i }), parts.2),
    )

pub leads_no_space : (version : StoreVersion) (bytes : List ℕ)
    (found : Option (Space × Option NumberedReply × Bor (List ℕ))) → found ≡ None → ReadsSpace version bytes found
    → LeadsNone (row_encoding_of version) (FitsRow version) bytes
leads_no_space version bytes found is reads row rest fits same =
    (subst (ReadsSpace version bytes) is reads).1 row.space row.kept rest fits.0 fits.1 same
