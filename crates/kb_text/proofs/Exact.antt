-- What the machine answers for a list of tokens is the first refusal that they show.
use Rattle.std.proofs.Common.{◌≡◌, ◌⊎◌, inl, inr, ⊎_elim, ℕ, ◌+◌, ◌-◌, ◌<◌, ◌≤◌, List, [], ◌∷◌, ◌++◌, Bool, true, false, cond, Option, Some, None, refl, sym, ◌∙◌, ap, subst, append_assoc, length, length-append, arith, is_some, nat_lt, lit≤, ◌||◌, flat_map}
use Rattle.std.proofs.lemmas.Option.{same_Some}
use Rattle.std.proofs.lemmas.List.{append-nil}
use Rattle.std.proofs.lemmas.Bool.{ltb-true, ltb-false}
use Rattle.std.proofs.Math.Nat.{eq-or-lt_of_le}
use Rattle.kb_text.specs.Tokens.{Token, end_of_input}
use Rattle.kb_text.specs.Grammar.{HasNext, section_tokens}
use Rattle.kb_text.specs.Fronts.{SectionFront, Front, IsFrontOf, open_tokens}
use Rattle.kb_text.specs.Refusals.{shown, Shows, rank, ShowNothing, IsFirstShown}
use Rattle.kb_text.specs.declared.kind.Kind.{Kind}
use Rattle.kb_text.specs.declared.kind.Kind.TheVariants.{NotUtf8, Unclosed, BadSection, Theory, Strategy, DoubleVariable, Relative, Conditional, VariableApplied, ArityClash, BadToken, Limit}
use Rattle.kb_text.specs.declared.kind.Bound.TheVariants.{Name as NameLimit, Equations, Size, Depth, Symbols, Variables, Arity, Input}
use Rattle.kb_text.specs.Machine.{kinds, better, best, judged, may_end, next_front, go, from_next, first_from, start}
use Rattle.kb_text.proofs.RunTexts.{one_front, taken_if_next, last_split}
use Rattle.kb_text.proofs.Sound.{front_sound, next_if_taken}

-- p is the best of what the kinds for which Has holds show: of each such kind that is shown, the place isn't before p's, and at the same place the rank isn't less
abbrev pub NotBefore : Option (Kind × ℕ) → Kind → ℕ → Type 0
NotBefore None kind k = ⊥
NotBefore (Some p) kind k = (k < p.1) ⊎ ((k ≡ p.1) × (rank p.0 ≤ rank kind))

-- with one kind more, of a higher rank than those before
abbrev pub IsBelow : Option (Kind × ℕ) → Kind → Type 0
IsBelow None kind = Unit {0}
IsBelow (Some p) kind = rank p.0 ≤ rank kind

keeps_better : (p : Option (Kind × ℕ)) (kind other : Kind) (o : Option ℕ) (k : ℕ) → NotBefore p other k → NotBefore (better p kind o) other k
keeps_better None kind other o k h = absurd h
keeps_better (Some p) kind other None k h = h
keeps_better (Some p) kind other (Some j) k h = chosen (nat_lt p.1 j) refl
  where
    chosen : (c : Bool) → nat_lt p.1 j ≡ c → NotBefore (cond c (Some (kind, j)) (Some p)) other k
    chosen true e = let less : p.1 < j = ltb-true p.1 j e in ⊎_elim (λ below. inl (omega arith)) (λ same. let at_place : k ≡ p.1 = same.0 in inl (omega arith)) h
    chosen false e = h

own_better : (p : Option (Kind × ℕ)) (kind : Kind) (k : ℕ) → IsBelow p kind → NotBefore (better p kind (Some k)) kind k
own_better None kind k b = inr (refl, omega arith)
own_better (Some p) kind k b = chosen (nat_lt p.1 k) refl
  where
    chosen : (c : Bool) → nat_lt p.1 k ≡ c → NotBefore (cond c (Some (kind, k)) (Some p)) kind k
    chosen true e = inr (refl, omega arith)
    chosen false e = ⊎_elim (λ same. inr (same, b)) (λ less. inl less) (eq-or-lt_of_le (ltb-false p.1 k e))

below_better : (p : Option (Kind × ℕ)) (kind next : Kind) (o : Option ℕ) → IsBelow p kind → rank kind ≤ rank next → IsBelow (better p kind o) next
below_better None kind next None b h = tt
below_better None kind next (Some k) b h = h
below_better (Some p) kind next None b h = omega arith
below_better (Some p) kind next (Some k) b h = chosen (nat_lt p.1 k)
  where
    chosen : (c : Bool) → IsBelow (cond c (Some (kind, k)) (Some p)) next
    chosen true = h
    chosen false = omega arith

abbrev pub Rising : Kind → List Kind → Type 0
Rising last [] = Unit {0}
Rising last (kind ∷ ks) = (rank last ≤ rank kind) × Rising kind ks

abbrev pub IsIn : Kind → List Kind → Type 0
IsIn kind [] = ⊥
IsIn kind (x ∷ xs) = (kind ≡ x) ⊎ IsIn kind xs

keeps_best : (ks : List Kind) (p : Option (Kind × ℕ)) (f : Front) (t : Token) (other : Kind) (k : ℕ) → NotBefore p other k → NotBefore (best p ks f t) other k
keeps_best [] p f t other k h = h
keeps_best (kind ∷ ks) p f t other k h = keeps_best ks (better p kind (shown kind f t)) f t other k (keeps_better p kind other (shown kind f t) k h)

below_le : (p : Option (Kind × ℕ)) (last kind : Kind) → IsBelow p last → rank last ≤ rank kind → IsBelow p kind
below_le None last kind b h = tt
below_le (Some p) last kind b h = omega arith

pub in_best : (ks : List Kind) (p : Option (Kind × ℕ)) (last : Kind) (f : Front) (t : Token) (other : Kind) (k : ℕ) → IsBelow p last → Rising last ks → IsIn other ks → shown other f t ≡ Some k → NotBefore (best p ks f t) other k
in_best [] p last f t other k b r i h = absurd i
in_best (kind ∷ ks) p last f t other k b r (inl same) h =
    keeps_best ks (better p kind (shown kind f t)) f t other k
    (subst (λ (x : Kind). NotBefore (better p kind (shown kind f t)) x k) (sym same)
    (subst (λ (o : Option ℕ). NotBefore (better p kind o) kind k) (sym (ap (λ (x : Kind). shown x f t) (sym same) ∙ h)) (own_better p kind k (below_le p last kind b r.0))))
in_best (kind ∷ ks) p last f t other k b r (inr i) h = in_best ks (better p kind (shown kind f t)) kind f t other k (below_better p kind kind (shown kind f t) (below_le p last kind b r.0) (omega arith)) r.1 i h

below_best : (ks : List Kind) (p : Option (Kind × ℕ)) (last : Kind) (f : Front) (t : Token) → IsBelow p last → Rising last ks → rank last ≤ 17 → ((kind : Kind) → IsIn kind ks → rank kind ≤ 17) → IsBelow (best p ks f t) BadToken
below_best [] p last f t b r h k = below_le p last BadToken b h
below_best (kind ∷ ks) p last f t b r h k = below_best ks (better p kind (shown kind f t)) kind f t (below_better p kind kind (shown kind f t) (below_le p last kind b r.0) (omega arith)) r.1 (k kind (inl refl)) (λ x i. k x (inr i))

-- what is the best is shown
abbrev IsShown : Front → Token → Option (Kind × ℕ) → Type 0
IsShown f t None = Unit {0}
IsShown f t (Some p) = shown p.0 f t ≡ Some p.1

shown_better : (p : Option (Kind × ℕ)) (kind : Kind) (f : Front) (t : Token) (o : Option ℕ) → shown kind f t ≡ o → IsShown f t p → IsShown f t (better p kind o)
shown_better None kind f t None e h = tt
shown_better None kind f t (Some k) e h = e
shown_better (Some p) kind f t None e h = h
shown_better (Some p) kind f t (Some k) e h = chosen (nat_lt p.1 k)
  where
    chosen : (c : Bool) → IsShown f t (cond c (Some (kind, k)) (Some p))
    chosen true = e
    chosen false = h

shown_best : (ks : List Kind) (p : Option (Kind × ℕ)) (f : Front) (t : Token) → IsShown f t p → IsShown f t (best p ks f t)
shown_best [] p f t h = h
shown_best (kind ∷ ks) p f t h = shown_best ks (better p kind (shown kind f t)) f t (shown_better p kind f t (shown kind f t) refl h)

-- ---- one token

pub rises : Rising NotUtf8 kinds
rises = (lit≤ tt, (lit≤ tt, (lit≤ tt, (lit≤ tt, (lit≤ tt, (lit≤ tt, (lit≤ tt, (lit≤ tt, (lit≤ tt, (lit≤ tt, (lit≤ tt, (lit≤ tt, (lit≤ tt, (lit≤ tt, (lit≤ tt, (lit≤ tt, tt))))))))))))))))

-- the end of the input is there behind whole sections
may_end_is : (o : Option SectionFront) (t : Token) → may_end o t ≡ true → (t ≡ end_of_input) × (o ≡ None)
may_end_is None end_of_input e = (refl, refl)
may_end_is None t e = absurd (cc)
may_end_is (Some s) t e = absurd (cc)

may_end_at : (o : Option SectionFront) (t : Token) → t ≡ end_of_input → o ≡ None → may_end o t ≡ true
may_end_at o t e h = ap (λ (u : Token). may_end o u) e ∙ ap (λ (p : Option SectionFront). may_end p end_of_input) h

-- the machine takes the token, or the end of the input is there, exactly where the grammar has it
abbrev pub is_had : Front → Token → Bool
is_had f t = is_some (next_front f t) || may_end f.open_section t

had : (before : List Token) (f : Front) (t : Token) → IsFrontOf before f → is_had f t ≡ true → HasNext before t
had before f t h e = go (next_front f t) refl e
  where
    go : (o : Option Front) → next_front f t ≡ o → (is_some o || may_end f.open_section t) ≡ true → HasNext before t
    go (Some g) k e = next_if_taken before f g t h k
    go None k e =
        let r = may_end_is f.open_section t e in
        subst (HasNext before) (sym r.0) ([], (f.sections, h.sections, ap (λ (l : List Token). l ++ end_of_input ∷ []) (h.tokens_are ∙ ap (λ (o : Option SectionFront). flat_map section_tokens f.sections ++ open_tokens o) r.1 ∙ append-nil (flat_map section_tokens f.sections))))

not_had : (before : List Token) (f : Front) (t : Token) → IsFrontOf before f → is_had f t ≡ false → HasNext before t → ⊥
not_had before f t h e next = go (next_front f t) refl e (taken_if_next before f t h next)
  where
    go : (o : Option Front) → next_front f t ≡ o → (is_some o || may_end f.open_section t) ≡ false → ((g : Front) × (next_front f t ≡ Some g)) ⊎ ((t ≡ end_of_input) × (f.open_section ≡ None)) → ⊥
    go (Some g) k e r = cc
    go None k e (inl r) = let a = r.1 in cc
    go None k e (inr r) = let a = may_end_at f.open_section t r.0 r.1 in cc

abbrev token_place : Front → Token → Option ℕ
token_place f t = cond (is_some (next_front f t)) None (cond (may_end f.open_section t) None (Some 0))

place_if_had : (f : Front) (t : Token) → is_had f t ≡ true → token_place f t ≡ None
place_if_had f t e = go (is_some (next_front f t)) (may_end f.open_section t) e
  where
    go : (a b : Bool) → (a || b) ≡ true → cond {A = Option ℕ} a None (cond b None (Some 0)) ≡ None
    go true b e = refl
    go false true e = refl
    go false false e = absurd (cc)

place_if_not : (f : Front) (t : Token) → is_had f t ≡ false → token_place f t ≡ Some 0
place_if_not f t e = go (is_some (next_front f t)) (may_end f.open_section t) e
  where
    go : (a b : Bool) → (a || b) ≡ false → cond {A = Option ℕ} a None (cond b None (Some 0)) ≡ Some 0
    go true b e = absurd (cc)
    go false true e = absurd (cc)
    go false false e = refl

-- what is judged of a token is shown by it
abbrev pub Judged : List Token → Front → Token → Option (Kind × ℕ) → Type 0
Judged before f t None = Unit {0}
Judged before f t (Some p) = Shows before f t p.0 p.1

ranks : (kind : Kind) → rank kind ≤ 17
ranks NotUtf8 = lit≤ tt
ranks (Limit Input) = lit≤ tt
ranks BadToken = lit≤ tt
ranks (Limit NameLimit) = lit≤ tt
ranks Unclosed = lit≤ tt
ranks BadSection = lit≤ tt
ranks Theory = lit≤ tt
ranks Strategy = lit≤ tt
ranks DoubleVariable = lit≤ tt
ranks Relative = lit≤ tt
ranks Conditional = lit≤ tt
ranks VariableApplied = lit≤ tt
ranks ArityClash = lit≤ tt
ranks (Limit Equations) = lit≤ tt
ranks (Limit Size) = lit≤ tt
ranks (Limit Depth) = lit≤ tt
ranks (Limit Symbols) = lit≤ tt
ranks (Limit Variables) = lit≤ tt
ranks (Limit Arity) = lit≤ tt

shows_of : (before : List Token) (f : Front) (t : Token) (kind : Kind) (k : ℕ) → shown kind f t ≡ Some k → Shows before f t kind k
shows_of before f t NotUtf8 k h = h
shows_of before f t (Limit Input) k h = h
shows_of before f t (Limit NameLimit) k h = h
shows_of before f t Unclosed k h = h
shows_of before f t BadSection k h = h
shows_of before f t Theory k h = h
shows_of before f t Strategy k h = h
shows_of before f t DoubleVariable k h = h
shows_of before f t Relative k h = h
shows_of before f t Conditional k h = h
shows_of before f t VariableApplied k h = h
shows_of before f t ArityClash k h = h
shows_of before f t (Limit Equations) k h = h
shows_of before f t (Limit Size) k h = h
shows_of before f t (Limit Depth) k h = h
shows_of before f t (Limit Symbols) k h = h
shows_of before f t (Limit Variables) k h = h
shows_of before f t (Limit Arity) k h = h
shows_of before f t BadToken k h = absurd (cc)

judged_shows : (before : List Token) (f : Front) (t : Token) → IsFrontOf before f → Judged before f t (judged f t)
judged_shows before f t h = go (best None kinds f t) (shown_best kinds None f t tt) (is_had f t) refl
  where
    with_best : (p : Option (Kind × ℕ)) → IsShown f t p → Judged before f t (better p BadToken None)
    with_best None i = tt
    with_best (Some p) i = shows_of before f t p.0 p.1 i

    with_bad : (p : Option (Kind × ℕ)) → IsShown f t p → is_had f t ≡ false → Judged before f t (better p BadToken (Some 0))
    with_bad None i e = (not_had before f t h e, refl)
    with_bad (Some p) i e = chosen (nat_lt p.1 0)
      where
        chosen : (c : Bool) → Judged before f t (cond c (Some (BadToken, 0)) (Some p))
        chosen true = (not_had before f t h e, refl)
        chosen false = shows_of before f t p.0 p.1 i

    go : (p : Option (Kind × ℕ)) → IsShown f t p → (b : Bool) → is_had f t ≡ b → Judged before f t (better p BadToken (token_place f t))
    go p i true e = subst (λ (o : Option ℕ). Judged before f t (better p BadToken o)) (sym (place_if_had f t e)) (with_best p i)
    go p i false e = subst (λ (o : Option ℕ). Judged before f t (better p BadToken o)) (sym (place_if_not f t e)) (with_bad p i e)

in_kinds : (f : Front) (t : Token) (other : Kind) (k : ℕ) → IsIn other kinds → shown other f t ≡ Some k → NotBefore (judged f t) other k
in_kinds f t other k i h = keeps_better (best None kinds f t) BadToken other (token_place f t) k (in_best kinds None NotUtf8 f t other k tt rises i h)

all_judged : (before : List Token) (f : Front) (t : Token) → IsFrontOf before f → (other : Kind) (k : ℕ) → Shows before f t other k → NotBefore (judged f t) other k
all_judged before f t h NotUtf8 k s = absurd (cc)
all_judged before f t h (Limit Input) k s = absurd (cc)
all_judged before f t h (Limit NameLimit) k s = in_kinds f t (Limit NameLimit) k (inl refl) s
all_judged before f t h Unclosed k s = in_kinds f t Unclosed k (inr (inl refl)) s
all_judged before f t h BadSection k s = in_kinds f t BadSection k (inr (inr (inl refl))) s
all_judged before f t h Theory k s = in_kinds f t Theory k (inr (inr (inr (inl refl)))) s
all_judged before f t h Strategy k s = in_kinds f t Strategy k (inr (inr (inr (inr (inl refl))))) s
all_judged before f t h DoubleVariable k s = in_kinds f t DoubleVariable k (inr (inr (inr (inr (inr (inl refl)))))) s
all_judged before f t h Relative k s = in_kinds f t Relative k (inr (inr (inr (inr (inr (inr (inl refl))))))) s
all_judged before f t h Conditional k s = in_kinds f t Conditional k (inr (inr (inr (inr (inr (inr (inr (inl refl)))))))) s
all_judged before f t h VariableApplied k s = in_kinds f t VariableApplied k (inr (inr (inr (inr (inr (inr (inr (inr (inl refl))))))))) s
all_judged before f t h ArityClash k s = in_kinds f t ArityClash k (inr (inr (inr (inr (inr (inr (inr (inr (inr (inl refl)))))))))) s
all_judged before f t h (Limit Equations) k s = in_kinds f t (Limit Equations) k (inr (inr (inr (inr (inr (inr (inr (inr (inr (inr (inl refl))))))))))) s
all_judged before f t h (Limit Size) k s = in_kinds f t (Limit Size) k (inr (inr (inr (inr (inr (inr (inr (inr (inr (inr (inr (inl refl)))))))))))) s
all_judged before f t h (Limit Depth) k s = in_kinds f t (Limit Depth) k (inr (inr (inr (inr (inr (inr (inr (inr (inr (inr (inr (inr (inl refl))))))))))))) s
all_judged before f t h (Limit Symbols) k s = in_kinds f t (Limit Symbols) k (inr (inr (inr (inr (inr (inr (inr (inr (inr (inr (inr (inr (inr (inl refl)))))))))))))) s
all_judged before f t h (Limit Variables) k s = in_kinds f t (Limit Variables) k (inr (inr (inr (inr (inr (inr (inr (inr (inr (inr (inr (inr (inr (inr (inl refl))))))))))))))) s
all_judged before f t h (Limit Arity) k s = in_kinds f t (Limit Arity) k (inr (inr (inr (inr (inr (inr (inr (inr (inr (inr (inr (inr (inr (inr (inr (inl refl)))))))))))))))) s
all_judged before f t h BadToken k s = go (is_had f t) refl
  where
    go : (b : Bool) → is_had f t ≡ b → NotBefore (judged f t) BadToken k
    go true e = absurd (s.0 (had before f t h e))
    go false e = subst (λ (o : Option ℕ). NotBefore (better (best None kinds f t) BadToken o) BadToken k) (sym (place_if_not f t e))
        (subst (λ (j : ℕ). NotBefore (better (best None kinds f t) BadToken (Some 0)) BadToken j) (sym s.1)
        (own_better (best None kinds f t) BadToken 0 (below_best kinds None NotUtf8 f t tt rises (lit≤ tt) (λ kind i. ranks kind))))

-- ---- lists of tokens

-- one token more shows nothing
pub nothing_more : (before : List Token) (f : Front) (t : Token) → IsFrontOf before f → ShowNothing before → judged f t ≡ None → ShowNothing (before ++ t ∷ [])
nothing_more before f t h nothing e front u more split g k kind n shows = ⊎_elim at_end inside (last_split front more before u t (sym split))
  where
    at_end : (front ≡ before) × (u ≡ t) → ⊥
    at_end r =
        let same : g ≡ f = one_front before g f (subst (λ (l : List Token). IsFrontOf l g) r.0 k) h in
        let moved : Shows before g u kind n = subst (λ (l : List Token). Shows l g u kind n) r.0 shows in
        let named : Shows before g t kind n = subst (λ (x : Token). Shows before g x kind n) r.1 moved in
        let here : Shows before f t kind n = subst (λ (x : Front). Shows before x t kind n) same named in
        subst (λ (o : Option (Kind × ℕ)). NotBefore o kind n) e (all_judged before f t h kind n here)

    inside : ((m : List Token) × (front ++ u ∷ m ≡ before)) → ⊥
    inside r = nothing front u r.0 (sym r.1) g k kind n shows

-- the answer of the machine is the first refusal that is shown
pub first_exact : (ts before : List Token) (f : Front) (n : ℕ) (kind : Kind) (number : ℕ) → IsFrontOf before f → ShowNothing before → n ≡ length before → first_from f ts n ≡ Some (kind, number) → IsFirstShown (before ++ ts) kind number
first_exact [] before f n kind number h nothing e r = absurd (cc)
first_exact (t ∷ ts) before f n kind number h nothing e r = by_judged (λ b g m. first_exact ts b g m kind number) (judged f t) refl r
  where
    Again : Type 0
    Again = (b : List Token) (g : Front) (m : ℕ) → IsFrontOf b g → ShowNothing b → m ≡ length b → first_from g ts m ≡ Some (kind, number) → IsFirstShown (b ++ ts) kind number

    later : ℕ → Option (Kind × ℕ)
    later m = from_next (next_front f t) (λ g. first_from g ts m)

    found : (p : Kind × ℕ) → judged f t ≡ Some p → IsFirstShown (before ++ t ∷ ts) p.0 (n - p.1)
    found p k = record {
      before = before;
      token = t;
      more = ts;
      tokens_are = refl;
      earliest = nothing;
      front = f;
      is_front = h;
      back_by = p.1;
      shows = subst (Judged before f t) k (judged_shows before f t h);
      number_is = ap (λ (m : ℕ). m - p.1) e;
      first = λ other j s. subst (λ (o : Option (Kind × ℕ)). NotBefore o other j) k (all_judged before f t h other j s);
    }

    goes_on : Again → (o : Option Front) → next_front f t ≡ o → judged f t ≡ None → from_next o (λ g. first_from g ts (n + 1)) ≡ Some (kind, number) → IsFirstShown (before ++ t ∷ ts) kind number
    goes_on again None k j r = absurd (cc)
    goes_on again (Some g) k j r = subst (λ (l : List Token). IsFirstShown l kind number) (append_assoc before (t ∷ []) ts)
        (again (before ++ t ∷ []) g (n + 1) (front_sound before f g t h k) (nothing_more before f t h nothing j) (omega (arith, length-append before (t ∷ []))) r)

    by_judged : Again → (o : Option (Kind × ℕ)) → judged f t ≡ o → go o n later ≡ Some (kind, number) → IsFirstShown (before ++ t ∷ ts) kind number
    by_judged again (Some p) k r = subst (λ (q : Kind × ℕ). IsFirstShown (before ++ t ∷ ts) q.0 q.1) (same_Some (p.0, n - p.1) (kind, number) r) (found p k)
    by_judged again None k r = goes_on again (next_front f t) refl k r

-- no token stands before any, so the empty list shows nothing
pub empty_nothing : ShowNothing []
empty_nothing [] t more e f h kind k s = cc
empty_nothing (x ∷ before) t more e f h kind k s = cc

pub start_front : IsFrontOf [] start
start_front = record { sections = tt; open_section = tt; tokens_are = refl }

-- ---- where nothing is shown

-- a token of two lists stands in the first or behind it
pub split_at : (front more xs ts : List Token) (u : Token) → front ++ u ∷ more ≡ xs ++ ts → ((m : List Token) × (front ++ u ∷ m ≡ xs)) ⊎ ((y : List Token) × (front ≡ xs ++ y))
split_at front more [] ts u e = inr (front, refl)
split_at [] more (x ∷ xs) ts u e = inl (xs, let same : u ≡ x = cc in ap (λ (t : Token). t ∷ xs) same)
split_at (b ∷ front) more (x ∷ xs) ts u e = placed (split_at front more xs ts u (let r : front ++ u ∷ more ≡ xs ++ ts = cc in r)) (let r : b ≡ x = cc in r)
  where
    placed : ((m : List Token) × (front ++ u ∷ m ≡ xs)) ⊎ ((y : List Token) × (front ≡ xs ++ y)) → b ≡ x → ((m : List Token) × (b ∷ (front ++ u ∷ m) ≡ x ∷ xs)) ⊎ ((y : List Token) × (b ∷ front ≡ x ∷ (xs ++ y)))
    placed (inl a) k = inl (a.0, let r = a.1 in cc)
    placed (inr a) k = inr (a.0, let r = a.1 in cc)
