-- The lists of processes for which rules have been overlapped.
use Rattle.std.proofs.Common.{ℕ, zero, suc, ◌+◌, ◌<◌, ◌≤◌, ◌≡◌, ◌∙◌, refl, ap, sym, arith, List, [], ◌∷◌, ◌++◌, length, get_or, position, Some, None, Bool, true, false, cond, not}
use Rattle.std.specs.Prelude.{◌&&◌, nat_lt, slice_set}
use Rattle.std.specs.List.{position_or_len}
use Rattle.std.proofs.lemmas.Bool.Decides.{nat_tests}
use Rattle.std.proofs.lemmas.Option.{same_Some}
use Rattle.kb_label.specs.Names.{Name, has, join, relabel}
use Rattle.kb_label.proofs.Sets.{relabel-absent}
use Rattle.kb_term.specs.declared.origin.RuleRef.{RuleRef}
use Rattle.mkb_model.specs.Jobs.{ref_eq}
use Rattle.mkb_model.specs.Plain.{Done, done_in}
use Rattle.mkb_model.specs.Effects.{gains_done_in}
use Rattle.mkb_rules.specs.declared.overlapped.DonePair.{DonePair}
use Rattle.mkb_rules.specs.Keyed.{is_kept_for}
use Rattle.mkb_rules.specs.Kept.{plain_done}
use Rattle.mkb_rules.specs.Forking.{forked_done, with_names_at, with_new_names}
use Rattle.mkb_rules.specs.declared.effects.forking.NewNames.{NewNames}

-- where an item is found
found_at : {X : Type 0} (p : X → Bool) (xs : List X) (i : ℕ) → Some i ≡ position p xs → (i ≡ position_or_len p xs) × (i < length xs)
found_at p xs i h = go (nat_lt (position_or_len p xs) (length xs)) refl h
  where
    go : (t : Bool) → nat_lt (position_or_len p xs) (length xs) ≡ t → Some i ≡ cond t (Some (position_or_len p xs)) None → (i ≡ position_or_len p xs) × (i < length xs)
    go true e g = let same = same_Some i (position_or_len p xs) g in (same, grind (arith, nat_tests))
    go false e g = absurd (cc)

-- where none is found
pub nowhere : {X : Type 0} (p : X → Bool) (xs : List X) → None ≡ position p xs → length xs ≤ position_or_len p xs
nowhere p xs h = go (nat_lt (position_or_len p xs) (length xs)) refl h
  where
    go : (t : Bool) → nat_lt (position_or_len p xs) (length xs) ≡ t → None ≡ cond t (Some (position_or_len p xs)) None → length xs ≤ position_or_len p xs
    go true e g = absurd (cc)
    go false e g = grind (arith, nat_tests)

plain_length : (ds : List DonePair) → length (plain_done ds) ≡ length ds
plain_length [] = refl
plain_length (d ∷ ds) = ap suc (plain_length ds)

-- whether the list is kept for the two rules
abbrev is_for : RuleRef → RuleRef → DonePair → Bool
is_for a b d = ref_eq d.first a && ref_eq d.second b

module _ (a b : RuleRef) (l : List Name) where
  -- the names join the list that is kept
  gains_done-kept : (ds : List DonePair) (i : ℕ) (d : DonePair) → i ≡ position_or_len (is_kept_for a b) (plain_done ds) → i < length ds → d ≡ get_or ds i d
      → plain_done (slice_set ds i (record d { names = join d.names l })) ≡ gains_done_in a b l (plain_done ds)
  gains_done-kept [] i d is h e = absurd (omega (arith, h))
  gains_done-kept (x ∷ ds) zero d is h e = go (is_for a b x) refl is
    where
      go : (t : Bool) → is_for a b x ≡ t → zero ≡ cond (not t) (1 + position_or_len (is_kept_for a b) (plain_done ds)) 0
          → plain_done (record d { names = join d.names l } ∷ ds) ≡ cond t (record { first = x.first; second = x.second; names = join x.names l } ∷ plain_done ds) (record { first = x.first; second = x.second; names = x.names } ∷ gains_done_in a b l (plain_done ds))
      go true g u = ap (λ (y : DonePair). plain_done (record y { names = join y.names l } ∷ ds)) e
      go false g u = absurd (omega (arith, u))
  gains_done-kept (x ∷ ds) (suc i) d is h e = go (is_for a b x) is (λ u. gains_done-kept ds i d u (omega (arith, h)) e)
    where
      go : (t : Bool) → suc i ≡ cond (not t) (1 + position_or_len (is_kept_for a b) (plain_done ds)) 0 → (i ≡ position_or_len (is_kept_for a b) (plain_done ds) → plain_done (slice_set ds i (record d { names = join d.names l })) ≡ gains_done_in a b l (plain_done ds))
          → plain_done (x ∷ slice_set ds i (record d { names = join d.names l })) ≡ cond t (record { first = x.first; second = x.second; names = join x.names l } ∷ plain_done ds) (record { first = x.first; second = x.second; names = x.names } ∷ gains_done_in a b l (plain_done ds))
      go true u ih = absurd (omega (arith, u))
      go false u ih = ap (λ rest. record { first = x.first; second = x.second; names = x.names } ∷ rest) (ih (omega (arith, u)))

  -- where no list is kept, one more comes at the end
  gains_done-more : (ds : List Done) → length ds ≤ position_or_len (is_kept_for a b) ds → ds ++ record { first = a; second = b; names = l } ∷ [] ≡ gains_done_in a b l ds
  gains_done-more [] h = refl
  gains_done-more (x ∷ ds) h = go (is_kept_for a b x) h (λ u. gains_done-more ds u)
    where
      go : (t : Bool) → suc (length ds) ≤ cond (not t) (1 + position_or_len (is_kept_for a b) ds) 0 → (length ds ≤ position_or_len (is_kept_for a b) ds → ds ++ record { first = a; second = b; names = l } ∷ [] ≡ gains_done_in a b l ds)
          → x ∷ (ds ++ record { first = a; second = b; names = l } ∷ []) ≡ cond t (record x { names = join x.names l } ∷ ds) (x ∷ gains_done_in a b l ds)
      go true u ih = absurd (omega (arith, u))
      go false u ih = ap (λ rest. x ∷ rest) (ih (omega (arith, u)))

  pub gains_found : (ds : List DonePair) (i : ℕ) (d : DonePair) → Some i ≡ position (is_kept_for a b) (plain_done ds) → d ≡ get_or ds i d → plain_done (slice_set ds i (record d { names = join d.names l })) ≡ gains_done_in a b l (plain_done ds)
  gains_found ds i d is e =
      let at = found_at (is_kept_for a b) (plain_done ds) i is in
      gains_done-kept ds i d at.0 (omega (arith, at.1, plain_length ds)) e

  pub gains_new : (ds : List Done) → None ≡ position (is_kept_for a b) ds → ds ++ record { first = a; second = b; names = l } ∷ [] ≡ gains_done_in a b l ds
  gains_new ds none = gains_done-more ds (nowhere (is_kept_for a b) ds none)

module _ (a b : RuleRef) where
  done_kept : (ds : List DonePair) (i : ℕ) (d : DonePair) → i ≡ position_or_len (is_kept_for a b) (plain_done ds) → i < length ds → d ≡ get_or ds i d → done_in (plain_done ds) a b ≡ d.names
  done_kept [] i d is h e = absurd (omega (arith, h))
  done_kept (x ∷ ds) zero d is h e = go (is_for a b x) is
    where
      go : (t : Bool) → zero ≡ cond (not t) (1 + position_or_len (is_kept_for a b) (plain_done ds)) 0 → cond t x.names (done_in (plain_done ds) a b) ≡ d.names
      go true u = ap (λ (y : DonePair). y.names) (sym e)
      go false u = absurd (omega (arith, u))
  done_kept (x ∷ ds) (suc i) d is h e = go (is_for a b x) is (λ u. done_kept ds i d u (omega (arith, h)) e)
    where
      go : (t : Bool) → suc i ≡ cond (not t) (1 + position_or_len (is_kept_for a b) (plain_done ds)) 0 → (i ≡ position_or_len (is_kept_for a b) (plain_done ds) → done_in (plain_done ds) a b ≡ d.names) → cond t x.names (done_in (plain_done ds) a b) ≡ d.names
      go true u ih = absurd (omega (arith, u))
      go false u ih = ih (omega (arith, u))

  done_nowhere : (ds : List Done) → length ds ≤ position_or_len (is_kept_for a b) ds → done_in ds a b ≡ []
  done_nowhere [] h = refl
  done_nowhere (x ∷ ds) h = go (is_kept_for a b x) h (λ u. done_nowhere ds u)
    where
      go : (t : Bool) → suc (length ds) ≤ cond (not t) (1 + position_or_len (is_kept_for a b) ds) 0 → (length ds ≤ position_or_len (is_kept_for a b) ds → done_in ds a b ≡ []) → cond t x.names (done_in ds a b) ≡ []
      go true u ih = absurd (omega (arith, u))
      go false u ih = ih (omega (arith, u))

  -- the names of the list that is found
  pub names_found : (ds : List DonePair) (i : ℕ) (d : DonePair) → Some i ≡ position (is_kept_for a b) (plain_done ds) → d ≡ get_or ds i d → done_in (plain_done ds) a b ≡ d.names
  names_found ds i d is e =
      let at = found_at (is_kept_for a b) (plain_done ds) i is in
      done_kept ds i d at.0 (omega (arith, at.1, plain_length ds)) e

  -- nobody, where no list is found
  pub names_none : (ds : List Done) → None ≡ position (is_kept_for a b) ds → done_in ds a b ≡ []
  names_none ds none = done_nowhere ds (nowhere (is_kept_for a b) ds none)

-- the names at a place are others
pub names_put : (ds : List DonePair) (i : ℕ) (l : List Name) (d : DonePair) → i < length ds → d ≡ get_or ds i d → plain_done (slice_set ds i (record d { names = l })) ≡ with_names_at i l (plain_done ds)
names_put [] i l d h e = absurd (omega (arith, h))
names_put (x ∷ ds) zero l d h e = ap (λ (y : DonePair). plain_done (record y { names = l } ∷ ds)) e
names_put (x ∷ ds) (suc i) l d h e = ap (λ rest. record { first = x.first; second = x.second; names = x.names } ∷ rest) (names_put ds i l d (omega (arith, h)) e)

-- behind the end there is no place
pub names_beyond : (ds : List DonePair) (i : ℕ) (l : List Name) → length ds ≤ i → plain_done ds ≡ with_names_at i l (plain_done ds)
names_beyond [] i l h = refl
names_beyond (x ∷ ds) zero l h = absurd (omega (arith, h))
names_beyond (x ∷ ds) (suc i) l h = ap (λ rest. record { first = x.first; second = x.second; names = x.names } ∷ rest) (names_beyond ds i l (omega (arith, h)))

-- new names that come last are put in last
pub new_names-more : (ns : List NewNames) (n : NewNames) (ds : List Done) → with_new_names (ns ++ n ∷ []) ds ≡ with_names_at n.place n.names (with_new_names ns ds)
new_names-more [] n ds = refl
new_names-more (m ∷ ns) n ds = new_names-more ns n (with_names_at m.place m.names ds)

-- the first lists are those after a fork of p
abbrev pub done_front : Name → ℕ → List Done → List Done
done_front p zero ds = ds
done_front p (suc i) [] = []
done_front p (suc i) (d ∷ ds) = record d { names = relabel p d.names } ∷ done_front p i ds

-- the next list has its new names
pub front_named : (p : Name) (i : ℕ) (ds : List DonePair) (d : DonePair) → i < length ds → d ≡ get_or ds i d → with_names_at i (relabel p d.names) (done_front p i (plain_done ds)) ≡ done_front p (suc i) (plain_done ds)
front_named p i [] d h e = absurd (omega (arith, h))
front_named p zero (x ∷ ds) d h e = ap (λ (y : DonePair). record { first = x.first; second = x.second; names = relabel p y.names } ∷ plain_done ds) e
front_named p (suc i) (x ∷ ds) d h e = ap (λ rest. record { first = x.first; second = x.second; names = relabel p x.names } ∷ rest) (front_named p i ds d (omega (arith, h)) e)

-- the next list stays where p is not named
pub front_other : (p : Name) (i : ℕ) (ds : List DonePair) (d : DonePair) → i < length ds → d ≡ get_or ds i d → has d.names p ≡ false → done_front p i (plain_done ds) ≡ done_front p (suc i) (plain_done ds)
front_other p i [] d h e w = absurd (omega (arith, h))
front_other p zero (x ∷ ds) d h e w = ap (λ (l : List Name). record { first = x.first; second = x.second; names = l } ∷ plain_done ds) (sym (relabel-absent p x.names (ap (λ (y : DonePair). has y.names p) (sym e) ∙ w)))
front_other p (suc i) (x ∷ ds) d h e w = ap (λ rest. record { first = x.first; second = x.second; names = relabel p x.names } ∷ rest) (front_other p i ds d (omega (arith, h)) e w)

-- the front of all of them is the whole
pub front_all : (p : Name) (i : ℕ) (ds : List DonePair) → length ds ≤ i → done_front p i (plain_done ds) ≡ forked_done p (plain_done ds)
front_all p zero [] h = refl
front_all p zero (x ∷ ds) h = absurd (omega (arith, h))
front_all p (suc i) [] h = refl
front_all p (suc i) (x ∷ ds) h = ap (λ rest. record { first = x.first; second = x.second; names = relabel p x.names } ∷ rest) (front_all p i ds (omega (arith, h)))
