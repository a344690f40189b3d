-- Whether a node may be reduced, rule by rule.
use Rattle.std.proofs.Common.{ℕ, ◌+◌, ◌<◌, ◌≡◌, refl, sym, ap, ap₂, ◌∙◌, add-one, List, [], ◌∷◌, filter, length, drop, get_or, slice_get, Bool, true, false, not, cond, ◌&&◌, ◌||◌, ◌==◌, Option, Some, None}
use Rattle.std.specs.List.{list_any}
use Rattle.std.specs.Option.{option_map_or}
use Rattle.std.proofs.Math.Seq.{drop-cons}
use Rattle.kb_term.specs.declared.origin.RuleRef.{RuleRef}
use Rattle.kb_term.specs.declared.origin.Found.{Found}
use Rattle.kb_term.specs.declared.origin.Found.TheVariants.{No, Variant, Strict}
use Rattle.kb_label.specs.Names.{Name, has}
use Rattle.kb_node.specs.declared.node.LabelKind.TheVariants.{E, R0, R1}
use Rattle.mkb_model.specs.Plain.{Plain, PlainNode, known, label_or_none, rules_of}
use Rattle.mkb_model.specs.DueJobs.{is_open, is_reducible}
use Rattle.mkb_rules.specs.Roles.{no_roles, roles_at, roles_in, roles_of}
use Rattle.mkb_agenda.specs.Open.{is_open_in, is_open_to}

any_filter : {X : Type 0} (f g h : X → Bool) → ((x : X) → (h x && f x) ≡ g x) → (xs : List X) → list_any f (filter h xs) ≡ list_any g xs
any_filter f g h e [] = refl
any_filter {X} f g h e (x ∷ xs) = go (any_filter f g h e xs) (h x) refl
  where
    go : list_any f (filter h xs) ≡ list_any g xs → (t : Bool) → h x ≡ t → list_any f (cond t (x ∷ filter h xs) (filter h xs)) ≡ (g x || list_any g xs)
    go r true k = ap₂ ◌||◌ (ap (λ (z : Bool). z && f x) (sym k) ∙ e x) r
    go r false k = r ∙ ap (λ (z : Bool). z || list_any g xs) (ap (λ (z : Bool). z && f x) (sym k) ∙ e x)

open_zero : (b : Plain) (p : Name) (n : ℕ) (o : Option Found) → is_open b p n 0 o ≡ is_open_in (roles_of b p n) 0 o
open_zero b p n None = refl
open_zero b p n (Some No) = refl
open_zero b p n (Some Variant) = refl
open_zero b p n (Some Strict) = refl

open_one : (b : Plain) (p : Name) (n : ℕ) (o : Option Found) → is_open b p n 1 o ≡ is_open_in (roles_of b p n) 1 o
open_one b p n None = refl
open_one b p n (Some No) = refl
open_one b p n (Some Variant) = refl
open_one b p n (Some Strict) = refl

-- a node is reducible where one of the rules is open to it in its roles
pub reducible_by : (b : Plain) (p : Name) (n : ℕ) → is_reducible b p n ≡ list_any (is_open_to b (roles_of b p n) n) (rules_of b p)
reducible_by b p n = any_filter (λ (a : RuleRef). list_any (λ w. is_open b p n w (known b n w a)) (0 ∷ 1 ∷ [])) (is_open_to b (roles_of b p n) n) (λ (a : RuleRef). not (a.node == n))
    (λ a. ap (λ z. not (a.node == n) && z) (ap₂ (λ x y. x || (y || false)) (open_zero b p n (known b n 0 a)) (open_one b p n (known b n 1 a)))) (rules_of b p)

roles_by_labels : (p : Name) (o : Option PlainNode) → option_map_or (roles_in p) o no_roles ≡ record { equation = has (label_or_none o E) p; first = has (label_or_none o R0) p; second = has (label_or_none o R1) p }
roles_by_labels p None = refl
roles_by_labels p (Some x) = refl

-- how the process has the node, by the node alone
pub roles_there : (b : Plain) (p : Name) (n : ℕ) → roles_at b.nodes n p ≡ roles_of b p n
roles_there b p n = roles_by_labels p (slice_get b.nodes n)

-- the element at i is looked at, and then those behind it
pub any_next : {X : Type 0} (f : X → Bool) (xs : List X) (i : ℕ) (d : X) → i < length xs → list_any f (drop i xs) ≡ (f (get_or xs i d) || list_any f (drop (i + 1) xs))
any_next f xs i d l = rw (add-one, drop-cons xs i d) refl
