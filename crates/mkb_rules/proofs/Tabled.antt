-- Facts that are found by what they are about: one more.
use Rattle.std.proofs.Common.{ℕ, zero, suc, ◌<◌, ◌≤◌, ◌≡◌, refl, sym, ap, ◌∙◌, subst, arith, List, [], ◌∷◌, ◌++◌, length, set, get_or, Bool, true, false, cond, Option, Some, None, ⊎_elim}
use Rattle.std.specs.Prelude.{◌&&◌, ◌==◌, nat_le, option_map, option_and_then, ◌≢◌, All}
use Rattle.std.specs.List.{find}
use Rattle.std.proofs.lemmas.Bool.Decides.{nat_tests}
use Rattle.std.proofs.lemmas.List.{get_or-set_same, get_or-set_other, length-set}
use mathlib.Core.Bool.{true≢false}
use Rattle.std.proofs.lemmas.Bool.{eqb-true as eq_nat, and_parts, eq-eqb}
use Rattle.kb_term.specs.declared.origin.RuleRef.{RuleRef}
use Rattle.kb_term.specs.declared.origin.Found.{Found}
use Rattle.kb_node.specs.declared.job.Fact.{Fact}
use Rattle.mkb_model.specs.Jobs.{ref_eq}
use Rattle.mkb_rules.specs.Parts.{known_in}
use Rattle.mkb_rules.specs.Ranks.{rank_at, IsFree, HaveMore}
use Rattle.mkb_rules.specs.Tabled.{or_else, place, cell_at, known_at, is_plain, HasRoom, IsWider, IsTabled}

-- ---- lists

-- one more default at the end changes no element
pub default_behind : {X : Type 0} (xs : List X) (d : X) (i : ℕ) → get_or (xs ++ d ∷ []) i d ≡ get_or xs i d
default_behind [] d zero = refl
default_behind [] d (suc i) = refl
default_behind (x ∷ xs) d zero = refl
default_behind (x ∷ xs) d (suc i) = default_behind xs d i

-- the elements of a list with another one at a place
set_as : {X : Type 0} (xs : List X) (i : ℕ) (x d : X) → i < length xs → (j : ℕ) → get_or (set xs i x) j d ≡ cond (j == i) x (get_or xs j d)
set_as xs i x d h j = go (j == i) refl
  where
    go : (b : Bool) → (j == i) ≡ b → get_or (set xs i x) j d ≡ cond b x (get_or xs j d)
    go true e = let same : j ≡ i = grind (arith, nat_tests) in ap (λ k. get_or (set xs i x) k d) same ∙ get_or-set_same xs i x d h
    go false e = let other : j ≢ i = λ same. absurd (true≢false (sym (test same) ∙ e)) in get_or-set_other xs i j x d other
      where
        test : j ≡ i → (j == i) ≡ true
        test same = grind (arith, nat_tests)

-- ---- what a fact is about

-- the fact is about this side and rule
abbrev is_about : Fact → ℕ → ℕ → RuleRef → Bool
is_about f n w a = (f.node.0 == n) && ((f.side == w) && ref_eq f.rule a)

-- one fact more says something only where no earlier one does
known-push : (fs : List Fact) (f : Fact) (n w : ℕ) (a : RuleRef) → known_in (fs ++ f ∷ []) n w a ≡ or_else (known_in fs n w a) (cond (is_about f n w a) (Some f.found) None)
known-push [] f n w a = go (is_about f n w a)
  where
    go : (b : Bool) → option_map (λ (g : Fact). g.found) (cond b (Some f) None) ≡ cond b (Some f.found) None
    go true = refl
    go false = refl
known-push (x ∷ fs) f n w a = go (is_about x n w a) (known-push fs f n w a)
  where
    go : (b : Bool) → known_in (fs ++ f ∷ []) n w a ≡ or_else (known_in fs n w a) (cond (is_about f n w a) (Some f.found) None)
        → option_map (λ (g : Fact). g.found) (cond b (Some x) (find (λ (g : Fact). is_about g n w a) (fs ++ f ∷ [])))
        ≡ or_else (option_map (λ (g : Fact). g.found) (cond b (Some x) (find (λ (g : Fact). is_about g n w a) fs))) (cond (is_about f n w a) (Some f.found) None)
    go true ih = refl
    go false ih = ih

none_else : {X : Type 0} (o : Option X) → or_else o None ≡ o
none_else (Some x) = refl
none_else None = refl

-- a fact that is about other sides or directions says nothing of these
other_known : (fs : List Fact) (f : Fact) (n w : ℕ) (a : RuleRef) → is_about f n w a ≡ false → known_in (fs ++ f ∷ []) n w a ≡ known_in fs n w a
other_known fs f n w a e = known-push fs f n w a ∙ ap (λ b. or_else (known_in fs n w a) (cond b (Some f.found) None)) e ∙ none_else (known_in fs n w a)

record IsAbout (f : Fact) (n w : ℕ) (a : RuleRef) : Type 0 where
  node : f.node.0 ≡ n
  side : f.side ≡ w
  rule : f.rule.node ≡ a.node
  dir : f.rule.dir ≡ a.dir

about_is : (f : Fact) (n w : ℕ) (a : RuleRef) → is_about f n w a ≡ true → IsAbout f n w a
about_is f n w a h =
    let x = and_parts (f.node.0 == n) ((f.side == w) && ref_eq f.rule a) h in
    let y = and_parts (f.side == w) (ref_eq f.rule a) x.1 in
    let z = and_parts (f.rule.node == a.node) (f.rule.dir == a.dir) y.1 in
    record { node = eq_nat f.node.0 n x.0; side = eq_nat f.side w y.0; rule = eq_nat f.rule.node a.node z.0; dir = eq_nat f.rule.dir a.dir z.1 }

at_place : (f : Fact) (n w : ℕ) (a : RuleRef) → f.side ≤ 1 → f.rule.dir ≤ 1 → w ≤ 1 → a.dir ≤ 1 → is_about f n w a ≡ ((place a.node a.dir == place f.rule.node f.rule.dir) && (place n w == place f.node.0 f.side))
at_place f n w a fs fd hw ha = go (is_about f n w a) refl (place a.node a.dir == place f.rule.node f.rule.dir) refl (place n w == place f.node.0 f.side) refl
  where
    go : (t : Bool) → is_about f n w a ≡ t → (r : Bool) → (place a.node a.dir == place f.rule.node f.rule.dir) ≡ r → (s : Bool) → (place n w == place f.node.0 f.side) ≡ s → t ≡ (r && s)
    go true e true g true h = refl
    go true e false g s h = let i = about_is f n w a e in absurd (true≢false (sym (eq-eqb (place a.node a.dir) (place f.rule.node f.rule.dir) (omega (arith, i.rule, i.dir))) ∙ g))
    go true e true g false h = let i = about_is f n w a e in absurd (true≢false (sym (eq-eqb (place n w) (place f.node.0 f.side) (omega (arith, i.node, i.side))) ∙ h))
    go false e false g s h = refl
    go false e true g false h = refl
    go false e true g true h =
        let p = eq_nat (place a.node a.dir) (place f.rule.node f.rule.dir) g in
        let q = eq_nat (place n w) (place f.node.0 f.side) h in
        let node : f.node.0 ≡ n = omega (arith, q, fs, hw) in
        let side : f.side ≡ w = omega (arith, q, fs, hw) in
        let rule : f.rule.node ≡ a.node = omega (arith, p, fd, ha) in
        let dir : f.rule.dir ≡ a.dir = omega (arith, p, fd, ha) in
        let about : is_about f n w a ≡ true = grind (arith, nat_tests) in
        absurd (true≢false (sym about ∙ e))

-- ---- one fact more

plain_side : (f : Fact) → is_plain f ≡ true → (f.side ≤ 1) × (f.rule.dir ≤ 1)
plain_side f plain =
    let x = and_parts (nat_le f.side 1) (nat_le f.rule.dir 1) plain in
    let one = x.0 in
    let two = x.1 in
    let side : f.side ≤ 1 = grind (arith, nat_tests) in
    let dir : f.rule.dir ≤ 1 = grind (arith, nat_tests) in
    (side, dir)

-- another fact says nothing of two sides and directions
pub noted_other : (ranks : List (Option ℕ)) (rows : List (List (Option Found))) (f : Fact) → is_plain f ≡ false → (fs : List Fact) → IsTabled ranks rows fs → IsTabled ranks rows (fs ++ f ∷ [])
noted_other ranks rows f odd fs tabled = record {
  known = λ n w a hw ha. tabled.known n w a hw ha ∙ sym (other_known fs f n w a (go n w a hw ha (is_about f n w a) refl));
  free = tabled.free;
}
  where
    go : (n w : ℕ) (a : RuleRef) → w ≤ 1 → a.dir ≤ 1 → (b : Bool) → is_about f n w a ≡ b → b ≡ false
    go n w a hw ha false e = refl
    go n w a hw ha true e =
        let i = about_is f n w a e in
        let side : f.side ≤ 1 = omega (arith, i.side, hw) in
        let dir : f.rule.dir ≤ 1 = omega (arith, i.dir, ha) in
        let plain : is_plain f ≡ true = grind (arith, nat_tests) in
        absurd (true≢false (sym plain ∙ odd))

-- what is found stands at this place of this row, unless something stands there
abbrev pub noted : List (List (Option Found)) → ℕ → ℕ → Found → List (List (Option Found))
noted rows i r found = set rows i (set (get_or rows i []) r (or_else (cell_at rows i r) (Some found)))

module _ (rows : List (List (Option Found))) (at_row rank : ℕ) (found : Found) (there : at_row < length rows) (inside : rank < length (get_or rows at_row [])) where
  abbrev new_cell : Option Found
  new_cell = or_else (cell_at rows at_row rank) (Some found)

  abbrev new_row : List (Option Found)
  new_row = set (get_or rows at_row []) rank new_cell

  noted-cell : (i r : ℕ) → cell_at (noted rows at_row rank found) i r ≡ or_else (cell_at rows i r) (cond ((i == at_row) && (r == rank)) (Some found) None)
  noted-cell i r = ap (λ row. get_or row r None) (set_as rows at_row new_row [] there i) ∙ go (i == at_row) refl
    where
      go : (b : Bool) → (i == at_row) ≡ b → get_or (cond b new_row (get_or rows i [])) r None ≡ or_else (cell_at rows i r) (cond (b && (r == rank)) (Some found) None)
      go false e = sym (none_else (cell_at rows i r))
      go true e = set_as (get_or rows at_row []) rank new_cell None inside r ∙ cell (r == rank) refl
        where
          here : i ≡ at_row
          here = eq_nat i at_row e

          cell : (c : Bool) → (r == rank) ≡ c → cond c new_cell (cell_at rows at_row r) ≡ or_else (cell_at rows i r) (cond c (Some found) None)
          cell false h = ap (λ k. cell_at rows k r) (sym here) ∙ sym (none_else (cell_at rows i r))
          cell true h = ap (λ k. or_else (cell_at rows at_row k) (Some found)) (sym (eq_nat r rank h)) ∙ ap (λ k. or_else (cell_at rows k r) (Some found)) (sym here)

  -- the rank is that of one rule
  module _ (ranks : List (Option ℕ)) (rule : ℕ) (given : rank_at ranks rule ≡ Some rank) (only : (j : ℕ) → rank_at ranks j ≡ Some rank → j ≡ rule) where
    noted-known : (i j : ℕ) → known_at ranks (noted rows at_row rank found) i j ≡ or_else (known_at ranks rows i j) (cond ((j == rule) && (i == at_row)) (Some found) None)
    noted-known i j = go (rank_at ranks j) refl (j == rule) refl
      where
        none : (b : Bool) → cond (b && false) (Some found) None ≡ None
        none true = refl
        none false = refl

        same : (b : Bool) → (b && true) ≡ b
        same true = refl
        same false = refl

        go : (o : Option ℕ) → rank_at ranks j ≡ o → (b : Bool) → (j == rule) ≡ b
            → option_and_then (cell_at (noted rows at_row rank found) i) o ≡ or_else (option_and_then (cell_at rows i) o) (cond (b && (i == at_row)) (Some found) None)
        go None e false h = refl
        go None e true h =
            let had : rank_at ranks j ≡ Some rank = ap (rank_at ranks) (eq_nat j rule h) ∙ given in
            absurd (cc)
        go (Some r) e b h = noted-cell i r ∙ ap (or_else (cell_at rows i r)) (which b h (r == rank) refl)
          where
            which : (b : Bool) → (j == rule) ≡ b → (c : Bool) → (r == rank) ≡ c → cond ((i == at_row) && c) (Some found) None ≡ cond (b && (i == at_row)) (Some found) None
            which true h true k = ap (λ t. cond t (Some found) None) (same (i == at_row))
            which false h false k = none (i == at_row)
            which true h false k =
                let had : rank_at ranks j ≡ Some rank = ap (rank_at ranks) (eq_nat j rule h) ∙ given in
                let both : r ≡ rank = cc in
                absurd (true≢false (sym (eq-eqb r rank both) ∙ k))
            which false h true k =
                let had : rank_at ranks j ≡ Some rank = e ∙ ap Some (eq_nat r rank k) in
                absurd (true≢false (sym (eq-eqb j rule (only j had)) ∙ h))

    noted-free : (i r : ℕ) → IsFree ranks r → cell_at rows i r ≡ None → cell_at (noted rows at_row rank found) i r ≡ None
    noted-free i r free none = noted-cell i r ∙ ap (λ o. or_else o (cond ((i == at_row) && (r == rank)) (Some found) None)) none ∙ go (i == at_row) (r == rank) refl
      where
        go : (b c : Bool) → (r == rank) ≡ c → cond (b && c) (Some found) None ≡ None
        go false c h = refl
        go true false h = refl
        go true true h = absurd (free rule (given ∙ ap Some (sym (eq_nat r rank h))))

-- its rank is within the row
pub room_cell : (ranks : List (Option ℕ)) (rows : List (List (Option Found))) (f : Fact) (rank : ℕ) → HasRoom ranks rows f → is_plain f ≡ true → rank_at ranks (place f.rule.node f.rule.dir) ≡ Some rank → rank < length (get_or rows (place f.node.0 f.side) [])
room_cell ranks rows f rank room plain given =
    let it = room plain in
    let had = it.given in
    let same : it.rank ≡ rank = cc in
    omega (arith, it.cell, same)

-- a fact about one of two sides and directions
pub noted_plain : (ranks : List (Option ℕ)) (rows : List (List (Option Found))) (f : Fact) (rank : ℕ) → HasRoom ranks rows f → is_plain f ≡ true → rank_at ranks (place f.rule.node f.rule.dir) ≡ Some rank
    → ((j : ℕ) → rank_at ranks j ≡ Some rank → j ≡ place f.rule.node f.rule.dir) → (fs : List Fact) → IsTabled ranks rows fs → IsTabled ranks (noted rows (place f.node.0 f.side) rank f.found) (fs ++ f ∷ [])
noted_plain ranks rows f rank room plain given only fs tabled =
    let rule = place f.rule.node f.rule.dir in
    let row = place f.node.0 f.side in
    let bounds = plain_side f plain in
    let there = (room plain).row in
    let inside = room_cell ranks rows f rank room plain given in
    record {
      known = λ n w a hw ha.
          noted-known rows row rank f.found there inside ranks rule given only (place n w) (place a.node a.dir)
          ∙ ap (λ o. or_else o (cond ((place a.node a.dir == rule) && (place n w == row)) (Some f.found) None)) (tabled.known n w a hw ha)
          ∙ ap (λ b. or_else (known_in fs n w a) (cond b (Some f.found) None)) (sym (at_place f n w a bounds.0 bounds.1 hw ha))
          ∙ sym (known-push fs f n w a);
      free = λ i r free. noted-free rows row rank f.found there inside ranks rule given only i r free (tabled.free i r free);
    }

-- ---- more room

module _ (old new : List (List (Option Found))) (wider : IsWider old new) (ranks : List (Option ℕ)) where
  pub wider_tabled : (fs : List Fact) → IsTabled ranks old fs → IsTabled ranks new fs
  wider_tabled fs tabled = record {
    known = λ n w a hw ha. go (place n w) (rank_at ranks (place a.node a.dir)) ∙ tabled.known n w a hw ha;
    free = λ i r free. wider.kept i r ∙ tabled.free i r free;
  }
    where
      go : (i : ℕ) (o : Option ℕ) → option_and_then (cell_at new i) o ≡ option_and_then (cell_at old i) o
      go i None = refl
      go i (Some r) = wider.kept i r

pub wider_same : (rows : List (List (Option Found))) → IsWider rows rows
wider_same rows = record { rows = omega arith; rooms = λ i. omega arith; kept = λ i r. refl }

pub wider_then : (a b c : List (List (Option Found))) → IsWider a b → IsWider b c → IsWider a c
wider_then a b c x y = record {
  rows = omega (arith, x.rows, y.rows);
  rooms = λ i. omega (arith, x.rooms i, y.rooms i);
  kept = λ i r. y.kept i r ∙ x.kept i r;
}

-- one more row without room
pub wider_behind : (rows : List (List (Option Found))) → IsWider rows (rows ++ [] ∷ [])
wider_behind rows = record {
  rows = longer rows;
  rooms = λ i. omega (arith, ap length (default_behind rows [] i));
  kept = λ i r. ap (λ row. get_or row r None) (default_behind rows [] i);
}
  where
    longer : (xs : List (List (Option Found))) → length xs ≤ length (xs ++ [] ∷ [])
    longer [] = omega arith
    longer (x ∷ xs) = omega (arith, longer xs)

-- another row in the place of one, with the same and as much room
pub wider_set : (rows : List (List (Option Found))) (i : ℕ) (row : List (Option Found)) → i < length rows → length (get_or rows i []) ≤ length row → ((r : ℕ) → get_or row r None ≡ cell_at rows i r) → IsWider rows (set rows i row)
wider_set rows i row there longer same = record {
  rows = omega (arith, length-set rows i row);
  rooms = λ k. subst {A = List (Option Found)} (λ x. length (get_or rows k []) ≤ length x) (sym (set_as rows i row [] there k)) (room k (k == i) refl);
  kept = λ k r. ap (λ x. get_or x r None) (set_as rows i row [] there k) ∙ kept k r (k == i) refl;
}
  where
    room : (k : ℕ) (b : Bool) → (k == i) ≡ b → length (get_or rows k []) ≤ length (cond b row (get_or rows k []))
    room k false e = omega arith
    room k true e = subst {A = ℕ} (λ m. length (get_or rows m []) ≤ length row) (sym (eq_nat k i e)) longer

    kept : (k r : ℕ) (b : Bool) → (k == i) ≡ b → get_or (cond b row (get_or rows k [])) r None ≡ cell_at rows k r
    kept k r false e = refl
    kept k r true e = same r ∙ ap (λ m. cell_at rows m r) (sym (eq_nat k i e))

-- ---- more ranks

module _ (old new : List (Option ℕ)) (more : HaveMore old new) (rows : List (List (Option Found))) where
  pub ranked_tabled : (fs : List Fact) → IsTabled old rows fs → IsTabled new rows fs
  ranked_tabled fs tabled = record {
    known = λ n w a hw ha. go (place n w) (place a.node a.dir) (rank_at new (place a.node a.dir)) refl (rank_at old (place a.node a.dir)) refl ∙ tabled.known n w a hw ha;
    free = λ i r free. tabled.free i r (λ j e. free j (more.kept j r e));
  }
    where
      go : (i j : ℕ) (o : Option ℕ) → rank_at new j ≡ o → (p : Option ℕ) → rank_at old j ≡ p → option_and_then (cell_at rows i) o ≡ option_and_then (cell_at rows i) p
      go i j None e None h = refl
      go i j None e (Some q) h = let kept : rank_at new j ≡ Some q = more.kept j q h in absurd (cc)
      go i j (Some r) e (Some q) h =
          let kept : rank_at new j ≡ Some q = more.kept j q h in
          let same : r ≡ q = cc in
          ap (cell_at rows i) same
      go i j (Some r) e None h = ⊎_elim (λ was. absurd (cc)) (λ free. tabled.free i r free) (more.fresh j r e)

-- ---- all of some facts

pub all_kept : {X : Type 0} {P Q : X → Type 0} → ((x : X) → P x → Q x) → (xs : List X) → All P xs → All Q xs
all_kept f xs all k d h = f (get_or xs k d) (all k d h)
