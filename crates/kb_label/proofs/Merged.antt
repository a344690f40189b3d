-- Two lists in their order are joined by taking the lesser of their first names.
use Rattle.std.specs.Prelude.{ℕ, zero, suc, ◌+◌, ◌<◌, ◌≤◌, ◌⊎◌, List, [], ◌∷◌, ◌++◌, length, drop, ◌≡◌, refl}
use Rattle.std.proofs.Common.{ap, ap₂, sym, ◌∙◌, inl, inr, get_or, append_assoc}
use Rattle.std.specs.List.{AppendsClones}
use Rattle.std.proofs.lemmas.List.Elements.{same_from_all_zip}
use Rattle.std.proofs.lemmas.List.{drop_more, drop_all, append-nil}
use Rattle.std.specs.declared.cmp.Ordering.TheVariants.{Less, Equal, Greater}
use Rattle.kb_label.specs.Names.{Name, name_cmp, add, join, IsInNameOrder}
use Rattle.kb_label.specs.NameOrder.{name_cmp-equal}
use Rattle.kb_label.proofs.Ordered.{turned, turned_back, skip, lower, rest, add-first, add-same, add-later, ordered-join_after}

-- a name that comes before all others comes first
pub join-front : (p : Name) (l m : List Name) → IsInNameOrder (p ∷ l) → join l (p ∷ m) ≡ p ∷ join l m
join-front p [] m o = refl
join-front p (q ∷ l) m o =
    ap (add q) (join-front p l m (skip p q l o)) ∙ add-later q p (join l m) (turned_back p q o.0)

pub join-less : (p q : Name) (l m : List Name) → name_cmp p q ≡ Less → IsInNameOrder (p ∷ l) → IsInNameOrder (q ∷ m) → join (p ∷ l) (q ∷ m) ≡ p ∷ join l (q ∷ m)
join-less p q l m h o w = add-first p (join l (q ∷ m)) (ordered-join_after p l (q ∷ m) o (lower p q m h w))

pub join-equal : (p q : Name) (l m : List Name) → name_cmp p q ≡ Equal → IsInNameOrder (p ∷ l) → join (p ∷ l) (q ∷ m) ≡ p ∷ join l m
join-equal p q l m h o =
    let e : q ≡ p = sym (name_cmp-equal p q h) in
    ap (λ r. join (p ∷ l) (r ∷ m)) e ∙ ap (add p) (join-front p l m o) ∙ add-same p (join l m)

pub join-greater : (p q : Name) (l m : List Name) → name_cmp p q ≡ Greater → IsInNameOrder (p ∷ l) → join (p ∷ l) (q ∷ m) ≡ q ∷ join (p ∷ l) m
join-greater p q l m h o = join-front q (p ∷ l) m (lower q p l (turned p q h) o)

pub join-none : (l : List Name) → IsInNameOrder l → join l [] ≡ l
join-none [] o = refl
join-none (p ∷ l) o = ap (add p) (join-none l (rest p l o)) ∙ add-first p l o

ordered-drop : (k : ℕ) (l : List Name) → IsInNameOrder l → IsInNameOrder (drop k l)
ordered-drop zero l o = o
ordered-drop (suc k) [] o = tt
ordered-drop (suc k) (p ∷ l) o = ordered-drop k l (rest p l o)

-- a list that is extended by copies of names is extended by those names
pub appended : (old new more : List Name) → AppendsClones (λ p q. q ≡ p) old new more → new ≡ old ++ more
appended old new more h = h.1 ∙ ap (λ l. old ++ l) (same_from_all_zip (λ p q. q ≡ p) more h.0 h.2 (λ p q e. e))

-- what is put at the end is a copy of the name
pub pushed : (done more all : List Name) (p copy : Name) → copy ≡ p → (done ++ p ∷ []) ++ more ≡ all → (done ++ copy ∷ []) ++ more ≡ all
pushed done more all p copy e h = rw e h

-- one name goes to the end of what is joined
taken : (done more all : List Name) (p : Name) → done ++ (p ∷ more) ≡ all → (done ++ p ∷ []) ++ more ≡ all
taken done more all p h = append_assoc done (p ∷ []) more ∙ h

module _ (left right done : List Name) (o : IsInNameOrder left) (w : IsInNameOrder right) (i j : ℕ) (h : i < length left) (k : j < length right) (p q : Name) (e : p ≡ get_or left i p) (f : q ≡ get_or right j q)
    (is : done ++ join (drop i left) (drop j right) ≡ join left right) where
  front : drop i left ≡ p ∷ drop (i + 1) left
  front = drop_more left i p h ∙ ap (λ r. r ∷ drop (i + 1) left) (sym e)

  back : drop j right ≡ q ∷ drop (j + 1) right
  back = drop_more right j q k ∙ ap (λ r. r ∷ drop (j + 1) right) (sym f)

  front_order : IsInNameOrder (p ∷ drop (i + 1) left)
  front_order = rw front at (ordered-drop i left o)

  back_order : IsInNameOrder (q ∷ drop (j + 1) right)
  back_order = rw back at (ordered-drop j right w)

  both : done ++ join (p ∷ drop (i + 1) left) (q ∷ drop (j + 1) right) ≡ join left right
  both = ap (λ l. done ++ l) (sym (ap₂ join front back)) ∙ is

  pub taken-less : name_cmp p q ≡ Less → (done ++ p ∷ []) ++ join (drop (i + 1) left) (drop j right) ≡ join left right
  taken-less c =
      taken done (join (drop (i + 1) left) (drop j right)) (join left right) p
      (ap (λ l. done ++ (p ∷ join (drop (i + 1) left) l)) back ∙ ap (λ l. done ++ l) (sym (join-less p q (drop (i + 1) left) (drop (j + 1) right) c front_order back_order)) ∙ both)

  pub taken-equal : name_cmp p q ≡ Equal → (done ++ p ∷ []) ++ join (drop (i + 1) left) (drop (j + 1) right) ≡ join left right
  taken-equal c =
      taken done (join (drop (i + 1) left) (drop (j + 1) right)) (join left right) p
      (ap (λ l. done ++ l) (sym (join-equal p q (drop (i + 1) left) (drop (j + 1) right) c front_order)) ∙ both)

  pub taken-greater : name_cmp p q ≡ Greater → (done ++ q ∷ []) ++ join (drop i left) (drop (j + 1) right) ≡ join left right
  taken-greater c =
      taken done (join (drop i left) (drop (j + 1) right)) (join left right) q
      (ap (λ l. done ++ (q ∷ join l (drop (j + 1) right))) front ∙ ap (λ l. done ++ l) (sym (join-greater p q (drop (i + 1) left) (drop (j + 1) right) c front_order)) ∙ both)

-- at the end of one list the rest of the other follows
pub joined : (left right done : List Name) (i j : ℕ) → IsInNameOrder left → (length left ≤ i) ⊎ (length right ≤ j) → done ++ join (drop i left) (drop j right) ≡ join left right
    → (done ++ drop i left) ++ drop j right ≡ join left right
joined left right done i j o (inl h) is =
    let none = drop_all i left h in
    ap (λ l. (done ++ l) ++ drop j right) none ∙ ap (λ l. l ++ drop j right) (append-nil done) ∙ ap (λ l. done ++ join l (drop j right)) (sym none) ∙ is
joined left right done i j o (inr h) is =
    let none = drop_all j right h in
    ap (λ l. (done ++ drop i left) ++ l) none ∙ append-nil (done ++ drop i left) ∙ ap (λ l. done ++ l) (sym (join-none (drop i left) (ordered-drop i left o))) ∙ ap (λ l. done ++ join (drop i left) l) (sym none) ∙ is
