-- A fork of a place: what it leaves of the names, and of the names at the places of a set.
use Rattle.std.proofs.Common.{◌≡◌, ℕ, ◌+◌, ◌<◌, List, [], ◌∷◌, ◌++◌, length, Bool, true, false, ◌&&◌, ◌||◌, not, set, get_or, replicate, zero, suc, refl, sym, ap, ap₂, ◌∙◌, arith, length-append, length-set}
use Rattle.std.proofs.lemmas.List.{length-replicate, get_or-replicate, replicate_more}
use mathlib.Core.Bool.{true≢false}
use Rattle.std.proofs.lemmas.Bool.{or_from, or_parts, false_from_ne_true}
use Rattle.kb_lemmas.proofs.Booleans.{or_swap}
use Rattle.kb_label.specs.Names.{Name, root, child, name_eq, has, join, minus, add, relabel, IsInNameOrder}
use Rattle.kb_label.specs.Forks.{IsForked, at_first, at_fork}
use Rattle.kb_label.proofs.Members.{name_eq-refl, name_eq-eq}
use Rattle.kb_label.proofs.Ordered.{ordered-add, ordered-filter}
use Rattle.kb_label.proofs.Sets.{same_names, has-relabel, relabel-absent}
use Rattle.kb_label.proofs.Forked.{relabelled, begins-more, leaves-forked}
use Rattle.fork_labels.specs.Places.{split, with_fork, picked}
use Rattle.fork_labels.proofs.Picked.{AreDistinct, has-append, has-sorted, sorted, has-picked, picked-absent, has-place, has-name_at}

-- ---- what is picked after a fork

pub length-split : (ns : List Name) (s : ℕ) → length (split ns s) ≡ length ns + 1
unfolding split
length-split ns s = length-append (set ns s (child (get_or ns s root) false)) (child (get_or ns s root) true ∷ []) ∙ ap (λ n. n + 1) (length-set ns s (child (get_or ns s root) false))

pub length-with_fork : (bs : List Bool) (s : ℕ) → length (with_fork bs s) ≡ length bs + 1
unfolding with_fork
length-with_fork bs s = length-append bs (get_or bs s false ∷ [])

picked-append : (bs cs : List Bool) (ns ms : List Name) → length bs ≡ length ns → picked (bs ++ cs) (ns ++ ms) ≡ picked bs ns ++ picked cs ms
unfolding picked
picked-append [] cs [] ms h = refl
picked-append [] cs (p ∷ ns) ms h = absurd (omega arith)
picked-append (b ∷ bs) cs [] ms h = absurd (omega arith)
picked-append (true ∷ bs) cs (p ∷ ns) ms h = ap (λ l. p ∷ l) (picked-append bs cs ns ms (omega arith))
picked-append (false ∷ bs) cs (p ∷ ns) ms h = picked-append bs cs ns ms (omega arith)

-- the name at a place of the set is replaced
has-replaced : (bs : List Bool) (ns : List Name) (s : ℕ) (r q : Name) → length bs ≡ length ns → s < length ns → AreDistinct ns
    → has (picked bs (set ns s r)) q ≡ ((get_or bs s false && name_eq q r) || (not (name_eq q (get_or ns s root)) && has (picked bs ns) q))
has-replaced [] ns s r q h g d = absurd (omega arith)
has-replaced (b ∷ bs) [] s r q h g d = absurd (omega arith)
has-replaced (b ∷ bs) (p ∷ ns) zero r q h g d =
    has-picked b bs r ns q
    ∙ go b (name_eq q r) (name_eq q p) (has (picked bs ns) q) (λ e. picked-absent bs ns q (ap (has ns) (name_eq-eq q p e) ∙ d.0))
    ∙ ap (λ x. b && name_eq q r || not (name_eq q p) && x) (sym (has-picked b bs p ns q))
  where
    go : (b f e x : Bool) → (e ≡ true → x ≡ false) → (b && f || x) ≡ (b && f || not e && (b && e || x))
    go b f true x h = ap (λ y. b && f || y) (h refl)
    go true f false x h = refl
    go false f false x h = refl
has-replaced (b ∷ bs) (p ∷ ns) (suc s) r q h g d =
    has-picked b bs p (set ns s r) q
    ∙ ap (λ x. b && name_eq q p || x) (has-replaced bs ns s r q (omega arith) (omega arith) d.1)
    ∙ go b (name_eq q p) (get_or bs s false && name_eq q r) (name_eq q (get_or ns s root)) (has (picked bs ns) q) (apart (name_eq q (get_or ns s root)) refl)
    ∙ ap (λ x. get_or bs s false && name_eq q r || not (name_eq q (get_or ns s root)) && x) (sym (has-picked b bs p ns q))
  where
    apart : (e : Bool) → name_eq q (get_or ns s root) ≡ e → name_eq q p ≡ true → name_eq q (get_or ns s root) ≡ false
    apart true k m = absurd (true≢false (sym (has-name_at ns s (omega arith)) ∙ ap (has ns) (sym (name_eq-eq q (get_or ns s root) k) ∙ name_eq-eq q p m) ∙ d.0))
    apart false k m = k

    go : (b e f t x : Bool) → (e ≡ true → t ≡ false) → (b && e || (f || not t && x)) ≡ (f || not t && (b && e || x))
    go b true f t x h = rw (h refl) (or_swap (b && true) f x)
    go true false f t x h = refl
    go false false f t x h = refl

and_or_false : (b c : Bool) → (b && c || false) ≡ (b && c)
and_or_false true true = refl
and_or_false true false = refl
and_or_false false c = refl

has-picked_one : (b : Bool) (p q : Name) → has (picked (b ∷ []) (p ∷ [])) q ≡ (b && name_eq q p)
unfolding picked
has-picked_one true p q = and_or_false true (name_eq q p)
has-picked_one false p q = refl

has-picked_split : (bs : List Bool) (ns : List Name) (s : ℕ) (q : Name) → length bs ≡ length ns → s < length ns → AreDistinct ns
    → has (picked (with_fork bs s) (split ns s)) q
    ≡ (((get_or bs s false && name_eq q (child (get_or ns s root) false)) || (not (name_eq q (get_or ns s root)) && has (picked bs ns) q)) || (get_or bs s false && name_eq q (child (get_or ns s root) true)))
unfolding with_fork split
has-picked_split bs ns s q h g d =
    let p = get_or ns s root in
    let b = get_or bs s false in
    ap (λ l. has l q) (picked-append bs (b ∷ []) (set ns s (child p false)) (child p true ∷ []) (h ∙ sym (length-set ns s (child p false))))
    ∙ has-append (picked bs (set ns s (child p false))) (picked (b ∷ []) (child p true ∷ [])) q
    ∙ ap₂ ◌||◌ (has-replaced bs ns s (child p false) q h g d) (has-picked_one b (child p true) q)

ordered-relabel : (p : Name) (l : List Name) (b : Bool) → has l p ≡ b → IsInNameOrder l → IsInNameOrder (relabel p l)
ordered-relabel p l true e h = rw (relabelled p l e) (ordered-add (child p false) (add (child p true) (minus l (p ∷ []))) (ordered-add (child p true) (minus l (p ∷ [])) (ordered-filter (λ r. not (has (p ∷ []) r)) l h)))
ordered-relabel p l false e h = rw (relabel-absent p l e) h

-- after a fork a set stands for the same names with both children in the place of their parent
pub split-relabels : (bs : List Bool) (ns : List Name) (s : ℕ) → length bs ≡ length ns → s < length ns → AreDistinct ns
    → join (picked (with_fork bs s) (split ns s)) [] ≡ relabel (get_or ns s root) (join (picked bs ns) [])
split-relabels bs ns s h g d =
    let p = get_or ns s root in
    let l = join (picked bs ns) [] in
    let is : has l p ≡ get_or bs s false = has-sorted (picked bs ns) p ∙ has-place bs ns s h g d in
    same_names (join (picked (with_fork bs s) (split ns s)) []) (relabel p l) (sorted (picked (with_fork bs s) (split ns s))) (ordered-relabel p l (has l p) refl (sorted (picked bs ns)))
    (λ q.
    has-sorted (picked (with_fork bs s) (split ns s)) q
    ∙ has-picked_split bs ns s q h g d
    ∙ ap (λ x. ((get_or bs s false && name_eq q (child p false)) || (not (name_eq q p) && x)) || (get_or bs s false && name_eq q (child p true))) (sym (has-sorted (picked bs ns) q))
    ∙ go l p q (get_or bs s false) is)
  where
    in_set : (a b c : Bool) → ((a || b) || c) ≡ (a || (c || b))
    in_set true b c = refl
    in_set false true true = refl
    in_set false true false = refl
    in_set false false true = refl
    in_set false false false = refl

    out : (e x : Bool) → (e ≡ true → x ≡ false) → (not e && x || false) ≡ x
    out true x h = sym (h refl)
    out false true h = refl
    out false false h = refl

    go : (l : List Name) (p q : Name) (b : Bool) → has l p ≡ b → (((b && name_eq q (child p false)) || (not (name_eq q p) && has l q)) || (b && name_eq q (child p true))) ≡ has (relabel p l) q
    go l p q true k = in_set (name_eq q (child p false)) (not (name_eq q p) && has l q) (name_eq q (child p true)) ∙ sym (has-relabel p q l k)
    go l p q false k = out (name_eq q p) (has l q) (λ e. ap (has l) (name_eq-eq q p e) ∙ k) ∙ sym (ap (λ m. has m q) (relabel-absent p l k))

-- ---- all places

pub picked-all : (ns : List Name) → picked (replicate (length ns) true) ns ≡ ns
unfolding picked
picked-all [] = refl
picked-all (p ∷ ns) = ap (λ l. p ∷ l) (picked-all ns)

with_fork-all : (n s : ℕ) → s < n → with_fork (replicate n true) s ≡ replicate (n + 1) true
unfolding with_fork
with_fork-all n s h = ap (λ b. replicate n true ++ b ∷ []) (get_or-replicate n s true false h) ∙ replicate_more n true

pub living-split : (ns : List Name) (s : ℕ) → s < length ns → AreDistinct ns → join (split ns s) [] ≡ relabel (get_or ns s root) (join ns [])
living-split ns s g d =
    ap (λ l. join l []) (sym (picked-all (split ns s)) ∙ ap (λ n. picked (replicate n true) (split ns s)) (length-split ns s) ∙ ap (λ bs. picked bs (split ns s)) (sym (with_fork-all (length ns) s g)))
    ∙ split-relabels (replicate (length ns) true) ns s (length-replicate (length ns) true) g d
    ∙ ap (λ l. relabel (get_or ns s root) (join l [])) (picked-all ns)

-- ---- the names stay apart

-- the names of a log: they come of forks, and none stands twice
pub record Good (ns : List Name) : Type 0 where
  pub forked : IsForked (join ns [])
  pub distinct : AreDistinct ns

turned : (p r : Name) → name_eq r p ≡ false → name_eq p r ≡ false
turned p r h = false_from_ne_true (name_eq p r) (λ e. true≢false (sym (name_eq-refl p) ∙ ap (λ x. name_eq x p) (name_eq-eq p r e) ∙ h))

pub has-set_absent : (ns : List Name) (s : ℕ) (r q : Name) → has ns q ≡ false → name_eq q r ≡ false → has (set ns s r) q ≡ false
has-set_absent [] s r q h e = refl
has-set_absent (p ∷ ns) zero r q h e = or_from (name_eq q r) (has ns q) e (or_parts (name_eq q p) (has ns q) h).1
has-set_absent (p ∷ ns) (suc s) r q h e = or_from (name_eq q p) (has (set ns s r) q) (or_parts (name_eq q p) (has ns q) h).0 (has-set_absent ns s r q (or_parts (name_eq q p) (has ns q) h).1 e)

distinct-set : (ns : List Name) (s : ℕ) (r : Name) → AreDistinct ns → has ns r ≡ false → AreDistinct (set ns s r)
distinct-set [] s r d h = tt
distinct-set (p ∷ ns) zero r d h = ((or_parts (name_eq r p) (has ns r) h).1, d.1)
distinct-set (p ∷ ns) (suc s) r d h =
    let w = or_parts (name_eq r p) (has ns r) h in
    (has-set_absent ns s r p d.0 (turned p r w.0), distinct-set ns s r d.1 w.1)

distinct-push : (ns : List Name) (r : Name) → AreDistinct ns → has ns r ≡ false → AreDistinct (ns ++ r ∷ [])
distinct-push [] r d h = (refl, tt)
distinct-push (p ∷ ns) r d h =
    let w = or_parts (name_eq r p) (has ns r) h in
    (has-append ns (r ∷ []) p ∙ or_from (has ns p) (name_eq p r || false) d.0 (or_from (name_eq p r) false (turned p r w.0) refl), distinct-push ns r d.1 w.1)

pub good-root : Good (root ∷ [])
good-root = record { forked = at_first; distinct = (refl, tt) }

length-child : (p : Name) (b : Bool) → length (child p b) ≡ length p + 1
length-child p b = length-append p (b ∷ [])

-- no child of a living process lives
pub fresh : (ns : List Name) (s : ℕ) → s < length ns → Good ns → (b : Bool) → has ns (child (get_or ns s root) b) ≡ false
fresh ns s g w b =
    let p = get_or ns s root in
    let there : has (join ns []) p ≡ true = has-sorted ns p ∙ has-name_at ns s g in
    false_from_ne_true (has ns (child p b)) (λ e.
    let same : p ≡ child p b = (leaves-forked (join ns []) w.forked).apart p (child p b) there (has-sorted ns (child p b) ∙ e) (begins-more p (b ∷ [])) in
    let long : length p ≡ length (child p b) = ap length same in
    omega (arith, long, length-child p b))

pub children_differ : (p : Name) → name_eq (child p true) (child p false) ≡ false
children_differ p = false_from_ne_true (name_eq (child p true) (child p false)) (λ e. ends p (name_eq-eq (child p true) (child p false) e))
  where
    tail : Name → Name
    tail [] = []
    tail (b ∷ p) = p

    ends : (p : Name) → child p true ≡ child p false → ⊥
    ends [] e = absurd (cc)
    ends (b ∷ p) e = ends p (ap tail e)

pub good-split : (ns : List Name) (s : ℕ) → s < length ns → Good ns → Good (split ns s)
unfolding split
good-split ns s g w =
    let p = get_or ns s root in
    let there : has (join ns []) p ≡ true = has-sorted ns p ∙ has-name_at ns s g in
    record {
      forked = rw (living-split ns s g w.distinct) (at_fork p (join ns []) w.forked there);
      distinct = distinct-push (set ns s (child p false)) (child p true) (distinct-set ns s (child p false) w.distinct (fresh ns s g w false)) (has-set_absent ns s (child p false) (child p true) (fresh ns s g w true) (children_differ p));
    }
