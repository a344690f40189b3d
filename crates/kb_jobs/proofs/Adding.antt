-- Groups of overlaps: what each adds, and how they make up the overlaps of all pairs of rules.
use Rattle.std.proofs.Common.{ℕ, zero, suc, ◌≤◌, ◌≡◌, refl, sym, ap, ◌∙◌, subst, arith, List, [], ◌∷◌, ◌++◌, map, take, drop, flat_map, length, Contains, append_assoc, Bool, true, false, Option, Some, None, Ok, ⊎_elim}
use Rattle.std.specs.Prelude.{slice_get, if◌then◌else◌}
use Rattle.std.proofs.lemmas.List.{append-nil}
use Rattle.std.proofs.lemmas.List.Concat.{flat_map-append}
use Rattle.std.proofs.lemmas.List.Elements.{Contains-append_cases}
use Rattle.std.proofs.lemmas.Bool.{ltb-false}
use Rattle.kb_lemmas.proofs.Membership.{contains_cases, none_in}
use Rattle.kb_lemmas.proofs.Options.{none_some, some_is}
use Rattle.kb_term.specs.Tree.{Tree}
use Rattle.kb_term.specs.Pair.{Pair, variables_of_pair, pair_limit, first_limit, limit_if}
use Rattle.kb_term.specs.declared.limit.Limit.{Limit}
use Rattle.kb_term.specs.declared.limit.Limit.TheVariants.{Size, Depth, Variables}
use Rattle.kb_term.specs.declared.origin.RuleRef.{RuleRef}
use Rattle.kb_node.specs.declared.job.Deduced.{Deduced}
use Rattle.kb_overlap.specs.Overlap.{pair_or_limit}
use Rattle.mkb_model.specs.Jobs.{ref_eq}
use Rattle.mkb_model.specs.Proposals.{NamedRule, NamedOverlap, OverlapsOf, OverlapsOfAll, both_ways, own_limit, FirstThat, deduced_pair, AreDeduced}
use Rattle.mkb_model.proofs.commits.Deductions.{named_overlap as one_overlap}
use Rattle.kb_jobs.specs.Groups.{AreFew, AddsPairs, AreGroupsOf, IsGroup, overlaps_in, origin_of}
use Rattle.kb_jobs.specs.declared.groups.Group.{Group}

-- ---- lists

pub take_next : {X : Type 0} (xs : List X) (i : ℕ) (x : X) → slice_get xs i ≡ Some x → take (suc i) xs ≡ take i xs ++ x ∷ []
take_next [] i x e = none_some e
take_next (y ∷ ys) zero x e = ap (λ z. z ∷ []) (some_is e)
take_next (y ∷ ys) (suc i) x e = ap (λ zs. y ∷ zs) (take_next ys i x e)

pub split_there : {X : Type 0} (xs : List X) (i : ℕ) (x : X) → slice_get xs i ≡ Some x → xs ≡ take i xs ++ x ∷ drop (suc i) xs
split_there [] i x e = none_some e
split_there (y ∷ ys) zero x e = ap (λ z. z ∷ ys) (some_is e)
split_there (y ∷ ys) (suc i) x e = ap (λ zs. y ∷ zs) (split_there ys i x e)

pub take_length : {X : Type 0} (xs : List X) (i : ℕ) → length xs ≤ i → take i xs ≡ xs
take_length [] zero h = refl
take_length [] (suc i) h = refl
take_length (x ∷ xs) zero h = absurd (omega (arith, h))
take_length (x ∷ xs) (suc i) h = ap (λ zs. x ∷ zs) (take_length xs i (omega (arith, h)))

pub flat_next : {X Y : Type 0} (f : X → List Y) (xs : List X) (i : ℕ) (x : X) → slice_get xs i ≡ Some x → flat_map f (take (suc i) xs) ≡ flat_map f (take i xs) ++ f x
flat_next f xs i x e = ap (flat_map f) (take_next xs i x e) ∙ flat_map-append f (take i xs) (x ∷ []) ∙ ap (λ zs. flat_map f (take i xs) ++ zs) (append-nil (f x))

pub flat_split : {X Y : Type 0} (f : X → List Y) (xs : List X) (i : ℕ) (x : X) → slice_get xs i ≡ Some x → flat_map f xs ≡ flat_map f (take i xs) ++ (f x ++ flat_map f (drop (suc i) xs))
flat_split f xs i x e = ap (flat_map f) (split_there xs i x e) ∙ flat_map-append f (take i xs) (x ∷ drop (suc i) xs)

pub one_more : {X : Type 0} (P : X → Type 0) (xs : List X) (x : X) → ((y : X) → Contains xs y → P y) → P x → (y : X) → Contains (xs ++ x ∷ []) y → P y
one_more P xs x h k y c = ⊎_elim (λ i. h y i) (λ i. ⊎_elim (λ e. subst P e k) (λ j. none_in j) (contains_cases x [] y i)) (Contains-append_cases xs (x ∷ []) y c)

-- the first member that meets a condition, in a longer list
pub first_within : {A : Type 0} (Clear Meets : A → Type 0) (before here rest : List A) → ((y : A) → Contains before y → Clear y) → FirstThat Clear Meets here → FirstThat Clear Meets (before ++ (here ++ rest))
first_within {A} Clear Meets before here rest h (b, x, a, e, clear, meets) = (
  before ++ b,
  x,
  a ++ rest,
  ap (λ (zs : List A). before ++ (zs ++ rest)) e ∙ ap (λ (zs : List A). before ++ zs) (append_assoc b (x ∷ a) rest) ∙ sym (append_assoc before b (x ∷ (a ++ rest))),
  (λ y c. ⊎_elim (λ i. h y i) (λ i. clear y i) (Contains-append_cases before b y c)),
  meets,
)

-- ---- pairs

-- no overlap passes a limit
abbrev pub Within : List NamedOverlap → Type 0
Within os = (o : NamedOverlap) → Contains os o → own_limit o.overlap.sides ≡ None

abbrev pub deduced : NamedOverlap → List (RuleRef × RuleRef × List ℕ × Pair)
deduced o = deduced_pair o o.overlap.sides

pub adds_more : (os : List NamedOverlap) (i : ℕ) (o : NamedOverlap) (old mid new : List Deduced) → slice_get os i ≡ Some o → AddsPairs (take i os) old mid → map origin_of new ≡ map origin_of mid ++ deduced_pair o o.overlap.sides → AddsPairs (take (suc i) os) old new
adds_more os i o old mid new e h k =
    k ∙ ap (λ zs. zs ++ deduced o) h ∙ append_assoc (map origin_of old) (flat_map deduced (take i os)) (deduced o) ∙ ap (λ zs. map origin_of old ++ zs) (sym (flat_next deduced os i o e))

pub within_more : (os : List NamedOverlap) (i : ℕ) (o : NamedOverlap) → slice_get os i ≡ Some o → Within (take i os) → own_limit o.overlap.sides ≡ None → Within (take (suc i) os)
within_more os i o e h k = subst {A = List NamedOverlap} Within (sym (take_next os i o e)) (one_more (λ (x : NamedOverlap). own_limit x.overlap.sides ≡ None) (take i os) o h k)

pub stops_there : {A : Type 0} (Clear Meets : A → Type 0) (os : List A) (i : ℕ) (o : A) → slice_get os i ≡ Some o → ((y : A) → Contains (take i os) y → Clear y) → Meets o → FirstThat Clear Meets os
stops_there Clear Meets os i o e h k = (take i os, o, drop (suc i) os, split_there os i o e, h, k)

-- ---- groups

pub group_there : (pairs : List (NamedRule × NamedRule)) (gs : List Group) → AreGroupsOf pairs gs → (i : ℕ) (g : Group) → slice_get gs i ≡ Some g → IsGroup g
group_there [] gs h i g e = none_some (ap (λ (z : List Group). slice_get z i) (sym h) ∙ e)
group_there (x ∷ xs) gs (f, rest, q, one, more) zero g e =
    (x.0, x.1, subst {A = Group} (λ z. OverlapsOf x.0 x.1 (overlaps_in z)) (some_is (ap (λ (z : List Group). slice_get z 0) (sym q) ∙ e)) one)
group_there (x ∷ xs) gs (f, rest, q, one, more) (suc k) g e = group_there xs rest more k g (ap (λ (z : List Group). slice_get z (suc k)) (sym q) ∙ e)

pub groups_all : (pairs : List (NamedRule × NamedRule)) (gs : List Group) → AreGroupsOf pairs gs → OverlapsOfAll pairs (flat_map overlaps_in gs)
groups_all [] gs h = ap (flat_map overlaps_in) h
groups_all (x ∷ xs) gs (g, rest, q, one, more) = (overlaps_in g, flat_map overlaps_in rest, one, groups_all xs rest more, ap (flat_map overlaps_in) q)

pub groups_append : (ps qs : List (NamedRule × NamedRule)) (gs hs : List Group) → AreGroupsOf ps gs → AreGroupsOf qs hs → AreGroupsOf (ps ++ qs) (gs ++ hs)
groups_append [] qs gs hs h k = subst {A = List Group} (λ z. AreGroupsOf qs (z ++ hs)) (sym h) k
groups_append (p ∷ ps) qs gs hs (g, rest, q, one, more) k = (g, rest ++ hs, ap (λ z. z ++ hs) q, one, groups_append ps qs rest hs more k)

pub one_way : (x y : NamedRule) (g : Group) (gs : List Group) → gs ≡ g ∷ [] → OverlapsOf x y (overlaps_in g) → ref_eq x.ref y.ref ≡ true → AreGroupsOf (both_ways x y) gs
one_way x y g gs e h k = subst {A = Bool} (λ b. AreGroupsOf (if b then (x, y) ∷ [] else (x, y) ∷ (y, x) ∷ []) gs) (sym k) (g, [], e, h, refl)

pub two_ways : (x y : NamedRule) (g f : Group) (gs : List Group) → gs ≡ g ∷ f ∷ [] → OverlapsOf x y (overlaps_in g) → OverlapsOf y x (overlaps_in f) → ref_eq x.ref y.ref ≡ false → AreGroupsOf (both_ways x y) gs
two_ways x y g f gs e h l k = subst {A = Bool} (λ b. AreGroupsOf (if b then (x, y) ∷ [] else (x, y) ∷ (y, x) ∷ []) gs) (sym k) (g, f ∷ [], e, h, (f, [], refl, l, refl))

-- ---- few variables

last_none : (a b c : Bool) → first_limit (limit_if a Size ∷ limit_if b Depth ∷ limit_if c Variables ∷ []) ≡ None → c ≡ false
last_none true b c e = none_some (sym e)
last_none false true c e = none_some (sym e)
last_none false false true e = none_some (sym e)
last_none false false false e = refl

pub pair_few : (s t : Tree) → pair_limit s t ≡ None → AreFew s t
pair_few s t e = ltb-false 64 (length (variables_of_pair s t)) (last_none _ _ _ e)

third_none : (a b c : Option Limit) → first_limit (a ∷ b ∷ c ∷ []) ≡ None → c ≡ None
third_none None None None e = refl
third_none (Some l) b c e = none_some (sym e)
third_none None (Some l) c e = none_some (sym e)
third_none None None (Some l) e = none_some (sym e)

sides_few : (o : Option Limit) (s t u v : Tree) → (o ≡ None → AreFew s t) → pair_or_limit o s t ≡ Ok (u, v) → AreFew u v
sides_few None s t u v h e =
    let k : ◌≡◌ {A = Tree × Tree} (s, t) (u, v) = cc in
    subst {A = Tree × Tree} (λ z. AreFew z.0 z.1) k (h refl)
sides_few (Some l) s t u v h e = absurd (cc)

-- the two sides of an overlap of a group have few variables
pub group_few : (g : Group) → IsGroup g → (o : NamedOverlap) → Contains (overlaps_in g) o → (u v : Tree) → o.overlap.sides ≡ Ok (u, v) → AreFew u v
group_few g (x, y, h) o c u v e =
    let r = one_overlap ((x, y) ∷ []) (overlaps_in g) (overlaps_in g, [], h, refl, sym (append-nil (overlaps_in g))) o c in
    let l = r.4 in
    sides_few _ l.s l.t u v (λ d. pair_few l.s l.t (third_none _ _ (pair_limit l.s l.t) d)) (sym l.sides ∙ e)

-- the loop over the groups
pub within_next : (gs : List Group) (i : ℕ) (g : Group) → slice_get gs i ≡ Some g → Within (flat_map overlaps_in (take i gs)) → Within (overlaps_in g) → Within (flat_map overlaps_in (take (suc i) gs))
within_next gs i g e h k =
    subst {A = List NamedOverlap} Within (sym (flat_next overlaps_in gs i g e)) (λ o c. ⊎_elim (λ j. h o j) (λ j. k o j) (Contains-append_cases (flat_map overlaps_in (take i gs)) (overlaps_in g) o c))

pub deduced_next : (gs : List Group) (i : ℕ) (g : Group) (mid new : List Deduced) → slice_get gs i ≡ Some g → AreDeduced mid (flat_map overlaps_in (take i gs)) → AddsPairs (overlaps_in g) mid new → AreDeduced new (flat_map overlaps_in (take (suc i) gs))
deduced_next gs i g mid new e h k =
    k ∙ ap (λ z. z ++ flat_map deduced (overlaps_in g)) h ∙ sym (flat_map-append deduced (flat_map overlaps_in (take i gs)) (overlaps_in g)) ∙ ap (flat_map deduced) (sym (flat_next overlaps_in gs i g e))

pub stops_in_group : (Clear Meets : NamedOverlap → Type 0) (gs : List Group) (i : ℕ) (g : Group) → slice_get gs i ≡ Some g → ((o : NamedOverlap) → Contains (flat_map overlaps_in (take i gs)) o → Clear o) → FirstThat Clear Meets (overlaps_in g) → FirstThat Clear Meets (flat_map overlaps_in gs)
stops_in_group Clear Meets gs i g e h k =
    subst {A = List NamedOverlap} (FirstThat Clear Meets) (sym (flat_split overlaps_in gs i g e)) (first_within Clear Meets (flat_map overlaps_in (take i gs)) (overlaps_in g) (flat_map overlaps_in (drop (suc i) gs)) h k)
