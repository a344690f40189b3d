-- Bytes are refused in one way at most.
use Rattle.std.proofs.Common.{append-nil, append_assoc, ◌≡◌, ◌⊎◌, inl, inr, ⊎_elim, refl, ap, sym, ◌∙◌, subst, arith, ℕ, ◌-◌, ◌<◌, ◌≤◌, List, [], ◌∷◌, ◌++◌, length, take_all, get_or}
use Rattle.std.specs.Prelude.{IsUtf8}
use Rattle.std.specs.Str.{IsValidUpTo}
use Rattle.std.proofs.lemmas.Str.{utf8_valid_len-IsValidUpTo}
use Rattle.kb_text.specs.Tokens.{Token, tokens}
use Rattle.kb_text.specs.Fronts.{Front, IsFrontOf}
use Rattle.kb_text.specs.Refusals.{Shows, IsFirstShown, IsRefused, too_long, not_utf8, by_tokens, rank, place_of}
use Rattle.kb_text.specs.declared.kind.Kind.{Kind}
use Rattle.kb_text.specs.declared.kind.Kind.TheVariants.{NotUtf8, Unclosed, BadSection, Theory, Strategy, DoubleVariable, Relative, Conditional, VariableApplied, ArityClash, BadToken, Limit}
use Rattle.kb_text.specs.declared.kind.Bound.TheVariants.{Name as NameLimit, Equations, Size, Depth, Symbols, Variables, Arity, Input}
use Rattle.kb_text.proofs.RunTexts.{one_front}
use Rattle.kb_text.proofs.Exact.{split_at}

-- ---- what one token shows

abbrev ranked : List Kind
ranked = NotUtf8 ∷ Limit NameLimit ∷ Unclosed ∷ BadSection ∷ Theory ∷ Strategy ∷ DoubleVariable ∷ Relative ∷ Conditional ∷ VariableApplied ∷ ArityClash ∷ Limit Equations ∷ Limit Size ∷ Limit Depth ∷ Limit Symbols ∷ Limit Variables ∷ Limit Arity ∷ BadToken ∷ []

-- a kind that is shown has its rank alone
by_rank : (before : List Token) (f : Front) (t : Token) (kind : Kind) (k : ℕ) → Shows before f t kind k → get_or ranked (rank kind) NotUtf8 ≡ kind
by_rank before f t NotUtf8 k s = refl
by_rank before f t Unclosed k s = refl
by_rank before f t BadSection k s = refl
by_rank before f t Theory k s = refl
by_rank before f t Strategy k s = refl
by_rank before f t DoubleVariable k s = refl
by_rank before f t Relative k s = refl
by_rank before f t Conditional k s = refl
by_rank before f t VariableApplied k s = refl
by_rank before f t ArityClash k s = refl
by_rank before f t BadToken k s = refl
by_rank before f t (Limit NameLimit) k s = refl
by_rank before f t (Limit Equations) k s = refl
by_rank before f t (Limit Size) k s = refl
by_rank before f t (Limit Depth) k s = refl
by_rank before f t (Limit Symbols) k s = refl
by_rank before f t (Limit Variables) k s = refl
by_rank before f t (Limit Arity) k s = refl
by_rank before f t (Limit Input) k s = absurd (cc)

-- two refusals of which neither is before the other
same_choice : (before : List Token) (f : Front) (t : Token) (a b : Kind) (m n : ℕ) → Shows before f t a m → Shows before f t b n → (n < m) ⊎ ((n ≡ m) × (rank a ≤ rank b)) → (m < n) ⊎ ((m ≡ n) × (rank b ≤ rank a)) → (a ≡ b) × (m ≡ n)
same_choice before f t a b m n s r (inl p) (inl q) = absurd (omega (arith, p, q))
same_choice before f t a b m n s r (inl p) (inr q) = absurd (let e = q.0 in omega (arith, p, e))
same_choice before f t a b m n s r (inr p) (inl q) = absurd (let e = p.0 in omega (arith, e, q))
same_choice before f t a b m n s r (inr p) (inr q) =
    let c = p.1 in
    let d = q.1 in
    let same : rank a ≡ rank b = omega (arith, c, d) in
    (sym (by_rank before f t a m s) ∙ ap (λ (k : ℕ). get_or ranked k NotUtf8) same ∙ by_rank before f t b n r, q.0)

-- ---- the first token that shows any

same_next : (xs : List Token) (t u : Token) (more others : List Token) → xs ++ t ∷ more ≡ xs ++ u ∷ others → t ≡ u
same_next [] t u more others e = cc
same_next (x ∷ xs) t u more others e = same_next xs t u more others (let r : xs ++ t ∷ more ≡ xs ++ u ∷ others = cc in r)

one_first : (ts : List Token) (a b : Kind) (m n : ℕ) → IsFirstShown ts a m → IsFirstShown ts b n → (a ≡ b) × (m ≡ n)
one_first ts a b m n h k = ⊎_elim
    (λ r. absurd (k.earliest h.before h.token r.0 (sym r.1) h.front h.is_front a h.back_by h.shows))
    (λ r. behind r.0 r.1)
    (split_at h.before h.more k.before (k.token ∷ k.more) h.token both)
  where
    both : h.before ++ h.token ∷ h.more ≡ k.before ++ k.token ∷ k.more
    both = sym h.tokens_are ∙ k.tokens_are

    behind : (y : List Token) → h.before ≡ k.before ++ y → (a ≡ b) × (m ≡ n)
    behind [] e =
        let before : h.before ≡ k.before = e ∙ append-nil k.before in
        let token : h.token ≡ k.token = same_next k.before h.token k.token h.more k.more (ap (λ (xs : List Token). xs ++ h.token ∷ h.more) (sym before) ∙ both) in
        let front : h.front ≡ k.front = one_front k.before h.front k.front (subst (λ (xs : List Token). IsFrontOf xs h.front) before h.is_front) k.is_front in
        let moved : (kind : Kind) (j : ℕ) → Shows k.before k.front k.token kind j → Shows h.before h.front h.token kind j = λ kind j s. subst (λ (xs : List Token). Shows xs h.front h.token kind j) (sym before) (subst (λ (f : Front). Shows k.before f h.token kind j) (sym front) (subst (λ (t : Token). Shows k.before k.front t kind j) (sym token) s)) in
        let back : (kind : Kind) (j : ℕ) → Shows h.before h.front h.token kind j → Shows k.before k.front k.token kind j = λ kind j s. subst (λ (t : Token). Shows k.before k.front t kind j) token (subst (λ (f : Front). Shows k.before f h.token kind j) front (subst (λ (xs : List Token). Shows xs h.front h.token kind j) before s)) in
        let r = same_choice h.before h.front h.token a b h.back_by k.back_by h.shows (moved b k.back_by k.shows) (h.first b k.back_by (moved b k.back_by k.shows)) (k.first a h.back_by (back a h.back_by h.shows)) in
        (r.0, h.number_is ∙ (λ i. length (before i) - r.1 i) ∙ sym k.number_is)
    behind (z ∷ zs) e =
        let token : z ≡ k.token = same_next k.before z k.token (zs ++ h.token ∷ h.more) k.more (sym (append_assoc k.before (z ∷ zs) (h.token ∷ h.more)) ∙ ap (λ (xs : List Token). xs ++ h.token ∷ h.more) (sym e) ∙ both) in
        absurd (h.earliest k.before k.token zs (e ∙ ap (λ (t : Token). k.before ++ t ∷ zs) token) k.front k.is_front b k.back_by k.shows)

-- ---- bytes

text_not_invalid : (bytes : List ℕ) (at : ℕ) → IsValidUpTo bytes at → IsUtf8 bytes → ⊥
text_not_invalid bytes at h u = h.longest (length bytes) h.short (subst IsUtf8 (sym (take_all (length bytes) bytes (omega arith))) u)

pub one_refusal : (bytes : List ℕ) (a b : Kind) (m n : ℕ) → IsRefused bytes a m → IsRefused bytes b n → (a ≡ b) × (m ≡ n)
one_refusal bytes a b m n (too_long h) (too_long k) = (refl, refl)
one_refusal bytes a b m n (too_long h) (not_utf8 k v) = absurd (omega (arith, h, k))
one_refusal bytes a b m n (too_long h) (by_tokens k u i s) = absurd (omega (arith, h, k))
one_refusal bytes a b m n (not_utf8 h v) (too_long k) = absurd (omega (arith, h, k))
one_refusal bytes a b m n (not_utf8 h v) (not_utf8 k w) = (refl, sym (utf8_valid_len-IsValidUpTo bytes m v) ∙ utf8_valid_len-IsValidUpTo bytes n w)
one_refusal bytes a b m n (not_utf8 h v) (by_tokens k u i s) = absurd (text_not_invalid bytes m v u)
one_refusal bytes a b m n (by_tokens h u i s) (too_long k) = absurd (omega (arith, h, k))
one_refusal bytes a b m n (by_tokens h u i s) (not_utf8 k w) = absurd (text_not_invalid bytes n w u)
one_refusal bytes a b m n (by_tokens h u i s) (by_tokens k v j r) = let q = one_first (tokens bytes) a b i j s r in (q.0, ap (place_of bytes) q.1)
