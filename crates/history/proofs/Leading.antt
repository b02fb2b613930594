-- How cells stay the same from entry block to entry block.
use Rattle.std.proofs.Common.{◌≡◌, ℕ, zero, suc, ◌<◌, ◌≤◌, Some, List, [], ◌∷◌, ◌++◌, length, take, slice_get, ap, sym, ◌∙◌, arith}
use Rattle.std.specs.Option.{option_map}
use Rattle.std.proofs.lemmas.List.{take-append-le, take-take, length-take-le}
use Rattle.history.specs.Blocks.{BlockNames, LinkValue, names_after, Leads}
use Rattle.history.proofs.Places.{slice_get-take}

pub take_front : {X : Type 0} (s long : ℕ) (cells block : List X) → s ≤ long → long ≤ length cells
    → take s (take long cells ++ block) ≡ take s cells
take_front s long cells block less fits =
    take-append-le s (take long cells) block (omega (arith, length-take-le long cells fits))
    ∙ take-take s long cells less

pub leads_more : (here : BlockNames) (links : List LinkValue) (cells : List ℕ) (long more : ℕ)
    → Leads here links cells long → long ≤ more → Leads here links cells more
leads_more here [] cells long more leads less = tt
leads_more here (l ∷ links) cells long more leads less =
    (omega (arith, leads.0), leads.1, leads_more l.next links cells long more leads.2 less)

-- one more link, after all entries
pub leads_next : (here : BlockNames) (links : List LinkValue) (cells block : List ℕ) (long : ℕ) (last : LinkValue)
    → Leads here links cells long → cells ≡ (names_after here links).cells → last.start ≡ long → long ≤ length cells
    → Leads here (links ++ last ∷ []) (take long cells ++ block) long
leads_next here [] cells block long last leads same at fits = (
  omega (arith, at),
  ap (λ s. take s here.cells) at
      ∙ (ap (take long) (sym same) ∙
      (sym (take_front long long cells block (omega arith) fits) ∙ ap
      (λ s. take s (take long cells ++ block)) (sym at))),
  tt,
)
leads_next here (l ∷ links) cells block long last leads same at fits = (
  leads.0,
  leads.1 ∙ sym (take_front l.start long cells block leads.0 fits),
  leads_next l.next links cells block long last leads.2 same at fits,
)

-- up to where a block was left, its cells are those of all blocks after it
pub leads_at : (here : BlockNames) (links : List LinkValue) (cells : List ℕ) (long e s : ℕ)
    → Leads here links cells long → option_map (λ (l : LinkValue). l.start) (slice_get links e) ≡ Some s
    → (s ≤ long) × (take s (names_after here (take e links)).cells ≡ take s cells)
leads_at here [] cells long e s leads at = absurd (cc at)
leads_at here (l ∷ links) cells long zero s leads at =
    let start : l.start ≡ s = cc at in
    (omega (arith, leads.0), ap (λ n. take n here.cells) (sym start) ∙ (leads.1 ∙ ap (λ n. take n cells) start))
leads_at here (l ∷ links) cells long (suc e) s leads at = leads_at l.next links cells long e s leads.2 at

pub leads_cell : (here : BlockNames) (links : List LinkValue) (cells : List ℕ) (long e s i : ℕ)
    → Leads here links cells long → option_map (λ (l : LinkValue). l.start) (slice_get links e) ≡ Some s
    → i < s → slice_get (names_after here (take e links)).cells i ≡ slice_get cells i
leads_cell here links cells long e s i leads at less =
    let same = (leads_at here links cells long e s leads at).1 in
    let theirs = (names_after here (take e links)).cells in
    sym (slice_get-take s i theirs less) ∙ (ap (λ (l : List ℕ). slice_get l i) same ∙ slice_get-take s i cells less)
