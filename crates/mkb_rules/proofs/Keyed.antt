-- The list for two rules is found by their key.
use Rattle.std.proofs.Common.{ℕ, zero, suc, ◌+◌, ◌≤◌, ◌≡◌, ◌∙◌, refl, ap, sym, arith, List, [], ◌∷◌, ◌++◌, length, get_or, position, Some, None, Bool, true, false, cond, not, ◌||◌, if◌then◌else◌}
use Rattle.std.specs.Prelude.{◌&&◌, nat_lt, slice_set}
use Rattle.std.specs.List.{list_any, position_or_len}
use Rattle.std.proofs.lemmas.List.{map_push}
use Rattle.indexmap.specs.IndexSet.{insert_key}
use Rattle.kb_label.specs.Names.{Name}
use Rattle.kb_lemmas.proofs.Numbers.{eq_turn}
use Rattle.kb_term.specs.declared.origin.RuleRef.{RuleRef}
use Rattle.mkb_model.specs.Jobs.{ref_eq}
use Rattle.mkb_rules.specs.declared.overlapped.DonePair.{DonePair}
use Rattle.mkb_rules.specs.Keyed.{is_kept_for, key_eq, key_of, keys_of_pairs}
use Rattle.mkb_rules.specs.Kept.{plain_done}
use Rattle.mkb_rules.proofs.DoneLists.{nowhere}

-- other names leave the keys
pub keys_put : (ds : List DonePair) (i : ℕ) (d : DonePair) (l : List Name) → d ≡ get_or ds i d → keys_of_pairs ds ≡ keys_of_pairs (slice_set ds i (record d { names = l }))
keys_put [] i d l e = refl
keys_put (x ∷ ds) zero d l e = ap (λ (y : DonePair). key_of y.first y.second ∷ keys_of_pairs ds) (sym e)
keys_put (x ∷ ds) (suc i) d l e = ap (λ ks. key_of x.first x.second ∷ ks) (keys_put ds i d l e)

keys_length : (ds : List DonePair) → length (keys_of_pairs ds) ≡ length (plain_done ds)
keys_length [] = refl
keys_length (d ∷ ds) = ap suc (keys_length ds)

module _ (a b : RuleRef) where
  -- keys are the same where the rules are
  key_test : (d : DonePair) → key_eq (key_of a b) (key_of d.first d.second) ≡ (ref_eq d.first a && ref_eq d.second b)
  key_test d = λ i. (eq_turn a.node d.first.node i && eq_turn a.dir d.first.dir i) && (eq_turn b.node d.second.node i && eq_turn b.dir d.second.dir i)

  key_first : (ds : List DonePair) → position_or_len (key_eq (key_of a b)) (keys_of_pairs ds) ≡ position_or_len (is_kept_for a b) (plain_done ds)
  key_first [] = refl
  key_first (d ∷ ds) = λ i. cond (not (key_test d i)) (1 + key_first ds i) 0

  -- the key stands where the list does
  pub key_place : (ds : List DonePair) → position (key_eq (key_of a b)) (keys_of_pairs ds) ≡ position (is_kept_for a b) (plain_done ds)
  key_place ds = λ i. cond (nat_lt (key_first ds i) (keys_length ds i)) (Some (key_first ds i)) None

  no_key : (ds : List DonePair) → length (plain_done ds) ≤ position_or_len (is_kept_for a b) (plain_done ds) → list_any (key_eq (key_of a b)) (keys_of_pairs ds) ≡ false
  no_key [] h = refl
  no_key (d ∷ ds) h = ap (λ t. t || list_any (key_eq (key_of a b)) (keys_of_pairs ds)) (key_test d) ∙ go (ref_eq d.first a && ref_eq d.second b) h (λ u. no_key ds u)
    where
      go : (t : Bool) → suc (length (plain_done ds)) ≤ cond (not t) (1 + position_or_len (is_kept_for a b) (plain_done ds)) 0
          → (length (plain_done ds) ≤ position_or_len (is_kept_for a b) (plain_done ds) → list_any (key_eq (key_of a b)) (keys_of_pairs ds) ≡ false) → (t || list_any (key_eq (key_of a b)) (keys_of_pairs ds)) ≡ false
      go true u ih = absurd (omega (arith, u))
      go false u ih = ih (omega (arith, u))

  -- a list for rules that had none brings their key
  pub key_added : (ds : List DonePair) (l : List Name) → None ≡ position (is_kept_for a b) (plain_done ds)
      → insert_key key_eq (keys_of_pairs ds) (key_of a b) ≡ keys_of_pairs (ds ++ record { first = a; second = b; names = l } ∷ [])
  key_added ds l none =
      ap (λ t. if t then keys_of_pairs ds else keys_of_pairs ds ++ key_of a b ∷ []) (no_key ds (nowhere (is_kept_for a b) (plain_done ds) none))
      ∙ sym (map_push (λ (d : DonePair). key_of d.first d.second) ds (record { first = a; second = b; names = l }))
