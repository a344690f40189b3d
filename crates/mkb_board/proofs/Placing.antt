-- Lists of processes with places: what is done to the list is done to its names.
use Rattle.std.proofs.Common.{ℕ, suc, ◌+◌, ◌≡◌, ◌≤◌, ◌<◌, ap, ap₂, subst, sym, ◌∙◌, List, [], ◌∷◌, ◌++◌, length, map, filter, take, drop, get_or, cond, Bool, true, false, refl}
use Rattle.std.specs.Prelude.{insert, remove, Result, Ok, Err, IfOk, IfErr, IsTrue, is_ok}
use Rattle.std.specs.List.Sorted.{IsBinarySearchResult, IsNonDecreasingBy}
use Rattle.std.specs.Ordering.{ordering_index}
use Rattle.std.proofs.Math.ListN.{get_or-map}
use Rattle.std.proofs.lemmas.List.{drop-map, length-map, map-append, take-map}
use Rattle.kb_label.specs.Names.{Name, add, minus, name_cmp, IsInNameOrder}
use Rattle.kb_label.proofs.Ordered.{ordered-without}
use Rattle.mkb_board.specs.Working.{processes_in}
use Rattle.mkb_board.specs.declared.working.Placed.{Placed}
use Rattle.mkb_board.proofs.Picking.{drop_at}

pub map-remove : {A B : Type 0} (f : A → B) (l : List A) (k : ℕ) → map f (remove l k) ≡ remove (map f l) k
map-remove f l k = map-append f (take k l) (drop (suc k) l) ∙ ap₂ (λ a b. a ++ b) (sym (take-map f k l)) (sym (drop-map f (suc k) l))

pub map-insert : {A B : Type 0} (f : A → B) (l : List A) (k : ℕ) (x : A) → map f (insert l k x) ≡ insert (map f l) k (f x)
map-insert f l k x = map-append f (take k l) (x ∷ drop k l) ∙ ap₂ (λ a b. a ++ f x ∷ b) (sym (take-map f k l)) (sym (drop-map f k l))

-- who passes, of the names
pub kept_names : (t : Name → Bool) (l : List Placed) → processes_in (filter (λ (it : Placed). t it.process) l) ≡ filter t (processes_in l)
kept_names t [] = refl
kept_names t (x ∷ l) = go (t x.process) (kept_names t l)
  where
    go : (b : Bool) → processes_in (filter (λ (it : Placed). t it.process) l) ≡ filter t (processes_in l)
        → processes_in (cond b (x ∷ filter (λ (it : Placed). t it.process) l) (filter (λ (it : Placed). t it.process) l)) ≡ cond b (x.process ∷ filter t (processes_in l)) (filter t (processes_in l))
    go true h = ap (λ (m : List Name). x.process ∷ m) h
    go false h = h

-- the name at a place
at : (l : List Placed) (k : ℕ) (q : Name) → get_or (processes_in l) k q ≡ (get_or l k (record { place = 0; process = q })).process
at l k q = get_or-map (λ (it : Placed). it.process) l k (record { place = 0; process = q })

module _ (p : Name) (l : List Placed) where
  rises : IsNonDecreasingBy (λ q. ordering_index (name_cmp q p)) (processes_in l) → IsNonDecreasingBy (λ (it : Placed). ordering_index (name_cmp it.process p)) l
  rises h i j d w v =
      subst {A = Name} (λ z. ordering_index (name_cmp z p) ≤ ordering_index (name_cmp (get_or l j d).process p)) (get_or-map (λ (it : Placed). it.process) l i d)
      (subst {A = Name} (λ z. ordering_index (name_cmp (get_or (processes_in l) i d.process) p) ≤ ordering_index (name_cmp z p)) (get_or-map (λ (it : Placed). it.process) l j d)
      (h i j d.process w (subst {A = ℕ} (λ n. j < n) (sym (length-map l (λ (it : Placed). it.process))) v)))

  -- a search in the list is one in its names
  pub names_searched : (r : Result ℕ ℕ) → IsBinarySearchResult (λ (it : Placed). name_cmp it.process p) l r → IsBinarySearchResult (λ q. name_cmp q p) (processes_in l) r
  names_searched (Ok k) h = λ q. ap (λ z. name_cmp z p) (at l k q) ∙ h (record { place = 0; process = q })
  names_searched (Err k) h = λ w.
      let s = h (rises w) in (
        λ i q v u. ap (λ z. name_cmp z p) (at l i q) ∙ s.0 i (record { place = 0; process = q }) v u,
        λ i q v u. ap (λ z. name_cmp z p) (at l i q) ∙ s.1 i (record { place = 0; process = q }) v (subst {A = ℕ} (λ n. i < n) (length-map l (λ (it : Placed). it.process)) u),
      )

-- where a search tells who is there
pub found_there : (r : Result ℕ ℕ) (b : Bool) → is_ok r ≡ b → IfOk r (λ _. IsTrue b)
found_there (Ok k) b e = sym e
found_there (Err k) b e = tt

pub not_found : (r : Result ℕ ℕ) (b : Bool) → is_ok r ≡ b → IfErr r (λ _. b ≡ false)
not_found (Ok k) b e = tt
not_found (Err k) b e = sym e

pub left_names : (p : Name) (l : List Placed) (r : Result ℕ ℕ) → IfOk r (λ k. remove (processes_in l) k ≡ minus (processes_in l) (p ∷ [])) → IfOk r (λ k. processes_in (remove l k) ≡ minus (processes_in l) (p ∷ []))
left_names p l (Ok k) h = map-remove (λ (it : Placed). it.process) l k ∙ h
left_names p l (Err k) h = tt

pub absent_names : (p : Name) (l : List Placed) (r : Result ℕ ℕ) → IfErr r (λ k. insert (processes_in l) k p ≡ add p (processes_in l))
    → IfErr r (λ k. (place : ℕ) → processes_in (insert l k (record { place = place; process = p })) ≡ add p (processes_in l))
absent_names p l (Ok k) h = tt
absent_names p l (Err k) h = λ place. map-insert (λ (it : Placed). it.process) l k (record { place = place; process = p }) ∙ h

-- from a place on
pub names_from : (l : List Placed) (n : ℕ) (it : Placed) → n < length l → it ≡ get_or l n it → drop n (processes_in l) ≡ it.process ∷ drop (n + 1) (processes_in l)
names_from l n it h e =
    drop_at (processes_in l) n it.process it.process (subst {A = ℕ} (λ m. n < m) (sym (length-map l (λ (at : Placed). at.process))) h) (ap (λ (at : Placed). at.process) e ∙ sym (get_or-map (λ (at : Placed). at.process) l n it))

pub left_ordered : (p : Name) (l m : List Placed) (k : ℕ) → IsInNameOrder (processes_in l) → m ≡ remove l k → processes_in (remove l k) ≡ minus (processes_in l) (p ∷ []) → IsInNameOrder (processes_in m)
left_ordered p l m k o e f = subst {A = List Name} IsInNameOrder (sym (ap (λ (z : List Placed). processes_in z) e ∙ f)) (ordered-without p (processes_in l) o)
