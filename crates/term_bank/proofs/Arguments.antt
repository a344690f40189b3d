-- The arguments of a term, which tell what it is.
use Rattle.std.proofs.Common.{ℕ, ◌≡◌, ◌<◌, List, [], ◌∷◌, length, get_or, Some, refl, sym, ap, ◌∙◌, arith}
use Rattle.std.specs.Prelude.{Contains}
use Rattle.std.proofs.lemmas.List.{length-map, get_or-map, get_or_default}
use Rattle.std.proofs.lemmas.Option.{slice_get-get_or, get_or_from_slice_get, slice_get_within}
use Rattle.kb_term.specs.Tree.{Tree, Trees, variable, apply, trees_of, list_of}
use Rattle.term_bank.specs.Terms.{HasTerm, term_at, terms_at, AreBelow, AreDistinct, HaveSubterms}
use Rattle.term_bank.specs.Cells.{term_with, ids_of, terms_in, IsBank}
use Rattle.term_bank.specs.declared.cell.TermId.{TermId}
use Rattle.term_bank.specs.declared.cell.Entry.{Entry}
use Rattle.term_bank.specs.declared.cell.Head.{Head}
use Rattle.term_bank.specs.declared.cell.Head.TheVariants.{Var, App}
use Rattle.term_bank.proofs.TermRows.{below_at, terms_in-length}

pub list_of-trees : (ts : List Tree) → list_of (trees_of ts) ≡ ts
list_of-trees [] = refl
list_of-trees (t ∷ ts) = ap (λ (us : List Tree). t ∷ us) (list_of-trees ts)

-- the arguments of an application, and its symbol
pub arguments_of : Tree → List Tree
arguments_of (variable n) = []
arguments_of (apply f ts) = list_of ts

pub same_arguments : (f g : ℕ) (ts us : List Tree) → apply f (trees_of ts) ≡ apply g (trees_of us) → ts ≡ us
unfolding arguments_of
same_arguments f g ts us e = sym (list_of-trees ts) ∙ ap arguments_of e ∙ list_of-trees us

pub same_symbol : (f g : ℕ) (ts us : Trees) → apply f ts ≡ apply g us → f ≡ g
same_symbol f g ts us e = cc

pub apart : (n f : ℕ) (ts : Trees) → variable n ≡ apply f ts → ⊥
apart n f ts e = cc

-- terms of cells that are there are theirs alone
pub same_cell : (terms : List Tree) (i j : ℕ) → AreDistinct terms → i < length terms → j < length terms → term_at terms i ≡ term_at terms j → i ≡ j
same_cell terms i j d h k e = d i j (term_at terms i) (slice_get-get_or terms i (variable 0) h) (slice_get-get_or terms j (variable 0) k ∙ ap Some (sym e))

head_of : {A : Type 0} → List A → A → A
head_of [] x = x
head_of (y ∷ ys) x = y

tail_of : {A : Type 0} → List A → List A
tail_of [] = []
tail_of (y ∷ ys) = ys

pub same_ids : (terms : List Tree) (xs ys : List TermId) → AreDistinct terms → AreBelow (length terms) xs → AreBelow (length terms) ys → terms_at terms xs ≡ terms_at terms ys → xs ≡ ys
unfolding head_of tail_of
same_ids terms [] [] d b c e = refl
same_ids terms [] (y ∷ ys) d b c e = absurd (cc)
same_ids terms (x ∷ xs) [] d b c e = absurd (cc)
same_ids terms (x ∷ xs) (y ∷ ys) d b c e =
    let first : x.0 ≡ y.0 = same_cell terms x.0 y.0 d b.0 c.0 (ap (λ ts. head_of ts (variable 0)) e) in
    let rest : xs ≡ ys = same_ids terms xs ys d b.1 c.1 (ap tail_of e) in
    λ i. record { 0 = first i } ∷ rest i

-- ---- each argument has an earlier cell

module _ (terms : List Tree) (i f : ℕ) (ts : Trees) (ids : List TermId) (below : AreBelow i ids) (within : i < length terms) (is : ts ≡ trees_of (terms_at terms ids)) where
  pub argument_cell : (t : Tree) → Contains (list_of ts) t → (j : ℕ) × (j < i) × HasTerm terms j t
  argument_cell t h =
      let listed : list_of ts ≡ terms_at terms ids = ap list_of is ∙ list_of-trees (terms_at terms ids) in
      let k = h.0 in
      let short : h.0 < length ids = omega (arith, h.1, ap length listed, length-map ids (λ (id : TermId). term_at terms id.0)) in
      let none : TermId = record { 0 = 0 } in
      let id = get_or ids h.0 none in
      let low : (get_or ids h.0 none).0 < i = below_at i ids h.0 (get_or ids h.0 none) below short (get_or_default ids h.0 none (get_or ids h.0 none) short) in
      let here : term_at terms (get_or ids h.0 none).0 ≡ t =
      sym (get_or-map (λ (x : TermId). term_at terms x.0) ids h.0 none t short) ∙ ap (λ us. get_or us h.0 t) (sym listed) ∙ h.2 in
      ((get_or ids h.0 none).0, low, slice_get-get_or terms (get_or ids h.0 none).0 (variable 0) (omega arith) ∙ ap Some here)

made_of : (terms : List Tree) (head : Head) (ids : List TermId) (f : ℕ) (ts : Trees) → apply f ts ≡ term_with head (terms_at terms ids) → ts ≡ trees_of (terms_at terms ids)
made_of terms (Var n) ids f ts e = absurd (apart n f ts (sym e))
made_of terms (App g) ids f ts e = cc

pub bank_subterms : (hashes : List ℕ) (cells : List Entry) (arguments : List TermId) → IsBank hashes cells arguments → HaveSubterms (terms_in cells arguments)
bank_subterms hashes cells arguments bank i f ts h t m =
    let terms = terms_in cells arguments in
    let within : i < length (terms_in cells arguments) = slice_get_within (terms_in cells arguments) i (apply f ts) h in
    let none : Entry = record { head = Var 0; start = 0; count = 0; size = 0; depth = 0 } in
    let e = get_or cells i none in
    let cell = bank.each i (get_or cells i none) (slice_get-get_or cells i none (omega (arith, terms_in-length cells arguments))) in
    let made : apply f ts ≡ term_with (get_or cells i none).head (terms_at (terms_in cells arguments) (ids_of arguments (get_or cells i none))) =
    sym (get_or_from_slice_get (terms_in cells arguments) i (apply f ts) (variable 0) h) ∙ cell.term in
    argument_cell (terms_in cells arguments) i f ts (ids_of arguments (get_or cells i none)) cell.below within
    (made_of (terms_in cells arguments) (get_or cells i none).head (ids_of arguments (get_or cells i none)) f ts made) t m
