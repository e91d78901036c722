-- Laws of lists, in the words of the rules. Assumes nothing.
use Rattle.std.specs.Prelude.{ℕ, zero, suc, ◌+◌, ◌-◌, ◌*◌, ◌<◌, ◌≤◌, ◌≡◌, Bool, ◌&&◌, ◌||◌, length, get_or, set, take, drop, T, ltb}
use Rattle.std.proofs.Common.{add-zero, zero-add, add_assoc, not-suc-le-zero, le_of_suc-le-suc, ◌∙◌, subst, ltb→lt}
use Rattle.std.proofs.Math.Nat.{zero-mul, suc-mul}
use native.Mathlib.Omega.{arith}
use Rattle.std.proofs.Math.Path.{refl, sym, ap}
use Rattle.std.proofs.Math.Bool.{true, false, not, cond}
use mathlib.Core.List.{List, [], ◌∷◌, ◌++◌, map}
use Rattle.std.proofs.Math.ListN.{get_or-map}
use Rattle.std.proofs.Math.Seq.{take-nil}
use Rattle.std.proofs.Math.Dec.{not_T}
use Rattle.std.specs.Float.Ieee.Fits.{and_l, and_r, and_i}
use Rattle.rules.specs.Words.{from, put_if, keep, every, along, along_from, total}

-- ---- bools

pub is_true : (b : Bool) → T b → b ≡ true
is_true true t = refl
is_true false t = absurd t

pub is_false : (b : Bool) → T (not b) → b ≡ false
is_false true t = absurd t
is_false false t = refl

-- of numbers that are not in this order
pub ltb_no : (a b : ℕ) → b ≤ a → ltb a b ≡ false
ltb_no a b h = is_false (ltb a b) (not_T (ltb a b) (λ t. omega (arith, h, ltb→lt a b t)))

pub or-other : (a b : Bool) → a ≡ false → T (a || b) → T b
or-other true b q t = absurd (subst T q tt)
or-other false b q t = t

-- ---- what holds of every entry

abbrev pub Every {ℓ} : {A : Type ℓ} → (A → Type 0) → List A → Type 0
Every Q [] = Unit {0}
Every Q (x ∷ l) = Q x × Every Q l

module _ {ℓ} {A : Type ℓ} where
  -- a test that computes says so
  pub each : (p : A → Bool) (l : List A) → T (every p l) → Every (λ x. T (p x)) l
  unfolding every
  each p [] t = tt
  each p (x ∷ l) t = (and_l (p x) (every p l) t, each p l (and_r (p x) (every p l) t))

  -- and the other way
  pub all_pass : (p : A → Bool) (l : List A) → Every (λ x. T (p x)) l → T (every p l)
  unfolding every
  all_pass p [] h = tt
  all_pass p (x ∷ l) h = and_i (p x) (every p l) h.0 (all_pass p l h.1)

  pub every-all : (Q : A → Type 0) → ((x : A) → Q x) → (l : List A) → Every Q l
  every-all Q h [] = tt
  every-all Q h (x ∷ l) = (h x, every-all Q h l)

  pub every-imp : (Q R : A → Type 0) → ((x : A) → Q x → R x) → (l : List A) → Every Q l → Every R l
  every-imp Q R f [] h = tt
  every-imp Q R f (x ∷ l) h = (f x h.0, every-imp Q R f l h.1)

  pub every-both : (Q R : A → Type 0) (l : List A) → Every Q l → Every R l → Every (λ x. Q x × R x) l
  every-both Q R [] a b = tt
  every-both Q R (x ∷ l) a b = ((a.0, b.0), every-both Q R l a.1 b.1)

  pub every_append : (Q : A → Type 0) (k l : List A) → Every Q k → Every Q l → Every Q (k ++ l)
  every_append Q [] l h g = g
  every_append Q (x ∷ k) l h g = (h.0, every_append Q k l h.1 g)

  pub every-at : (Q : A → Type 0) (l : List A) (d : A) (i : ℕ) → Every Q l → i < length l → Q (get_or l i d)
  every-at Q [] d i e h = absurd (not-suc-le-zero h)
  every-at Q (x ∷ l) d zero e h = e.0
  every-at Q (x ∷ l) d (suc i) e h = every-at Q l d i e.1 (le_of_suc-le-suc h)

  -- and by their places
  pub at_every : (Q : A → Type 0) (l : List A) (d : A) → ((i : ℕ) → i < length l → Q (get_or l i d)) → Every Q l
  at_every Q [] d h = tt
  at_every Q (x ∷ l) d h = (h 0 (omega arith), at_every Q l d (λ i b. h (suc i) (omega (arith, b))))

  -- where it holds of the default too, any place will do
  pub every-or : (Q : A → Type 0) (l : List A) (d : A) (i : ℕ) → Every Q l → Q d → Q (get_or l i d)
  every-or Q [] d i e h = h
  every-or Q (x ∷ l) d zero e h = e.0
  every-or Q (x ∷ l) d (suc i) e h = every-or Q l d i e.1 h

  pub every_take : (Q : A → Type 0) (n : ℕ) (l : List A) → Every Q l → Every Q (take n l)
  every_take Q zero l e = tt
  every_take Q (suc n) [] e = tt
  every_take Q (suc n) (x ∷ l) e = (e.0, every_take Q n l e.1)

  pub every_drop : (Q : A → Type 0) (n : ℕ) (l : List A) → Every Q l → Every Q (drop n l)
  every_drop Q zero l e = e
  every_drop Q (suc n) [] e = tt
  every_drop Q (suc n) (x ∷ l) e = every_drop Q n l e.1

  pub every_set : (Q : A → Type 0) (l : List A) (i : ℕ) (x : A) → Every Q l → Q x → Every Q (set l i x)
  every_set Q [] i x e h = tt
  every_set Q (y ∷ l) zero x e h = (h, e.1)
  every_set Q (y ∷ l) (suc i) x e h = (e.0, every_set Q l i x e.1 h)

  every-put : (Q : A → Type 0) (b : Bool) (x : A) (l : List A) → Q x → Every Q l → Every Q (put_if b x l)
  unfolding put_if
  every-put Q true x l q h = (q, h)
  every-put Q false x l q h = h

  pub every-keep : (Q : A → Type 0) (p : A → Bool) (l : List A) → Every Q l → Every Q (keep p l)
  unfolding keep
  every-keep Q p [] h = tt
  every-keep Q p (x ∷ l) h = every-put Q (p x) x (keep p l) h.0 (every-keep Q p l h.1)

  -- what is kept has passed
  pub kept-pass : (p : A → Bool) (l : List A) → Every (λ x. p x ≡ true) (keep p l)
  unfolding keep put_if
  kept-pass p [] = tt
  kept-pass p (x ∷ l) = go (p x) refl (kept-pass p l)
    where
      go : (b : Bool) → p x ≡ b → Every (λ y. p y ≡ true) (keep p l) → Every (λ y. p y ≡ true) (put_if b x (keep p l))
      go true e h = (e, h)
      go false e h = h

pub every_map {ℓ κ} : {A : Type ℓ} {B : Type κ} (Q : B → Type 0) (f : A → B) (l : List A) → Every (λ x. Q (f x)) l → Every Q (map f l)
every_map Q f [] h = tt
every_map Q f (x ∷ l) h = (h.0, every_map Q f l h.1)

pub map_same {ℓ} : {A : Type ℓ} {B : Type 0} (f g : A → B) (l : List A) → Every (λ x. f x ≡ g x) l → map f l ≡ map g l
map_same f g [] h = refl
map_same f g (x ∷ l) h = λ i. h.0 i ∷ map_same f g l h.1 i

-- ---- what is kept

module _ {ℓ} {A : Type ℓ} where
  pub keep_all : (p : A → Bool) (l : List A) → Every (λ x. p x ≡ true) l → keep p l ≡ l
  unfolding keep put_if
  keep_all p [] h = refl
  keep_all p (x ∷ l) h = ap (λ b. put_if b x (keep p l)) h.0 ∙ ap (λ r. x ∷ r) (keep_all p l h.1)

  pub keep-none : (p : A → Bool) (l : List A) → Every (λ x. p x ≡ false) l → keep p l ≡ []
  unfolding keep put_if
  keep-none p [] h = refl
  keep-none p (x ∷ l) h = ap (λ b. put_if b x (keep p l)) h.0 ∙ keep-none p l h.1

  pub keep_same : (p q : A → Bool) (l : List A) → Every (λ x. p x ≡ q x) l → keep p l ≡ keep q l
  unfolding keep
  keep_same p q [] h = refl
  keep_same p q (x ∷ l) h = λ i. put_if (h.0 i) x (keep_same p q l h.1 i)

  put-append : (b : Bool) (x : A) (k l : List A) → put_if b x k ++ l ≡ put_if b x (k ++ l)
  unfolding put_if
  put-append true x k l = refl
  put-append false x k l = refl

  pub keep_append : (p : A → Bool) (k l : List A) → keep p (k ++ l) ≡ keep p k ++ keep p l
  unfolding keep
  keep_append p [] l = refl
  keep_append p (x ∷ k) l = ap (put_if (p x) x) (keep_append p k l) ∙ sym (put-append (p x) x (keep p k) (keep p l))

  keep-put : (p : A → Bool) (b : Bool) (x : A) (l : List A) → keep p (put_if b x l) ≡ put_if (b && p x) x (keep p l)
  unfolding put_if keep
  keep-put p true x l = refl
  keep-put p false x l = refl

  pub keep-keep : (p q : A → Bool) (l : List A) → keep p (keep q l) ≡ keep (λ x. q x && p x) l
  unfolding keep
  keep-keep p q [] = refl
  keep-keep p q (x ∷ l) = keep-put p (q x) x (keep q l) ∙ ap (put_if (q x && p x) x) (keep-keep p q l)

  -- of a list of columns
  pub get_d-keep : (p : A → Bool) (cs : List (List A)) (j : ℕ) → get_or (map (keep p) cs) j [] ≡ keep p (get_or cs j [])
  unfolding keep
  get_d-keep p cs j = get_or-map (keep p) cs j []

pub put_map {ℓ κ} : {A : Type ℓ} {B : Type κ} (f : A → B) (b : Bool) (x : A) (l : List A) → put_if b (f x) (map f l) ≡ map f (put_if b x l)
unfolding put_if
put_map f true x l = refl
put_map f false x l = refl

pub keep-map {ℓ κ} : {A : Type ℓ} {B : Type κ} (p : B → Bool) (f : A → B) (l : List A) → keep p (map f l) ≡ map f (keep (λ x. p (f x)) l)
unfolding keep
keep-map p f [] = refl
keep-map p f (x ∷ l) = ap (put_if (p (f x)) (f x)) (keep-map p f l) ∙ put_map f (p (f x)) x (keep (λ y. p (f y)) l)

-- ---- an entry that is there, whatever stands for one that is not

pub same-default {ℓ} : {A : Type ℓ} (l : List A) (i : ℕ) (d e : A) → i < length l → get_or l i d ≡ get_or l i e
same-default [] i d e h = absurd (not-suc-le-zero h)
same-default (x ∷ l) zero d e h = refl
same-default (x ∷ l) (suc i) d e h = same-default l i d e (le_of_suc-le-suc h)

-- ---- the entries from place a up to place n

pub drop-take {ℓ} : {A : Type ℓ} (a n : ℕ) (l : List A) → drop a (take n l) ≡ take (n - a) (drop a l)
drop-take zero n l = let e : n - 0 ≡ n = omega arith in rw e
drop-take (suc a) zero l = let e : 0 - suc a ≡ 0 = omega arith in rw e
drop-take (suc a) (suc n) [] = sym (take-nil (suc n - suc a))
drop-take (suc a) (suc n) (x ∷ l) = let e : suc n - suc a ≡ n - a = omega arith in rw e (drop-take a n l)

-- ---- what it weighs

module _ {ℓ} {A : Type ℓ} where
  pub total-append : (f : A → ℕ) (k l : List A) → total f (k ++ l) ≡ total f k + total f l
  unfolding total
  total-append f [] l = sym (zero-add (total f l))
  total-append f (x ∷ k) l = ap (λ n. f x + n) (total-append f k l) ∙ sym (add_assoc (f x) (total f k) (total f l))

  pub total-same : (f g : A → ℕ) (l : List A) → Every (λ x. f x ≡ g x) l → total f l ≡ total g l
  unfolding total
  total-same f g [] h = refl
  total-same f g (x ∷ l) h = λ i. h.0 i + total-same f g l h.1 i

  pub total-le : (f g : A → ℕ) (l : List A) → Every (λ x. f x ≤ g x) l → total f l ≤ total g l
  unfolding total
  total-le f g [] h = omega arith
  total-le f g (x ∷ l) h = omega (arith, h.0, total-le f g l h.1)

  pub total-none : (f : A → ℕ) (l : List A) → Every (λ x. f x ≡ 0) l → total f l ≡ 0
  unfolding total
  total-none f [] h = refl
  total-none f (x ∷ l) h = omega (arith, h.0, total-none f l h.1)

  -- by two weights together
  pub total-both : (f g : A → ℕ) (l : List A) → total (λ x. f x + g x) l ≡ total f l + total g l
  unfolding total
  total-both f g [] = refl
  total-both f g (x ∷ l) = omega (arith, total-both f g l)

  -- what passes and what does not is all there is
  total-put : (f : A → ℕ) (b : Bool) (x : A) (k l : List A) → total f (put_if b x k) + total f (put_if (not b) x l) ≡ f x + (total f k + total f l)
  unfolding total put_if
  total-put f true x k l = omega arith
  total-put f false x k l = omega arith

  pub total-sides : (f : A → ℕ) (p : A → Bool) (l : List A) → total f (keep p l) + total f (keep (λ x. not (p x)) l) ≡ total f l
  unfolding total keep
  total-sides f p [] = refl
  total-sides f p (x ∷ l) = total-put f (p x) x (keep p l) (keep (λ y. not (p y)) l) ∙ ap (λ n. f x + n) (total-sides f p l)

  -- to keep is to weigh the rest 0
  pub total-keep : (f : A → ℕ) (p : A → Bool) (l : List A) → total f (keep p l) ≡ total (λ x. cond (p x) (f x) 0) l
  unfolding total keep put_if
  total-keep f p [] = refl
  total-keep f p (x ∷ l) = go (p x) ∙ ap (λ n. cond (p x) (f x) 0 + n) (total-keep f p l)
    where
      go : (b : Bool) → total f (put_if b x (keep p l)) ≡ cond b (f x) 0 + total f (keep p l)
      go true = refl
      go false = sym (zero-add (total f (keep p l)))

  -- where nothing is kept, nothing passes
  pub none_kept : (p : A → Bool) (l : List A) → total (λ x. 1) (keep p l) ≡ 0 → Every (λ x. p x ≡ false) l
  unfolding keep put_if total
  none_kept p [] h = tt
  none_kept p (x ∷ l) h = go (p x) refl h (λ z. none_kept p l z)
    where
      go : (b : Bool) → p x ≡ b → total (λ x. 1) (put_if b x (keep p l)) ≡ 0 → (total (λ x. 1) (keep p l) ≡ 0 → Every (λ x. p x ≡ false) l) → Every (λ x. p x ≡ false) (x ∷ l)
      go true e z rest = absurd (omega (arith, z))
      go false e z rest = (e, rest z)

  pub length-total : (l : List A) → total (λ x. 1) l ≡ length l
  unfolding total
  length-total [] = refl
  length-total (x ∷ l) = omega (arith, length-total l)

  pub total-under : (f : A → ℕ) (m : ℕ) (l : List A) → Every (λ x. f x ≤ m) l → total f l ≤ length l * m
  unfolding total
  total-under f m [] h = omega (arith, zero-mul m)
  total-under f m (x ∷ l) h = omega (arith, h.0, total-under f m l h.1, suc-mul (length l) m)

  pub keep-short : (p : A → Bool) (l : List A) → length (keep p l) ≤ length l
  keep-short p l = omega (arith, total-sides (λ x. 1) p l, length-total (keep p l), length-total l)

pub total-map {ℓ κ} : {A : Type ℓ} {B : Type κ} (g : B → ℕ) (f : A → B) (l : List A) → total g (map f l) ≡ total (λ x. g (f x)) l
unfolding total
total-map g f [] = refl
total-map g f (x ∷ l) = ap (λ n. g (f x) + n) (total-map g f l)

-- ---- a range

pub length_from : (a n : ℕ) → length (from a n) ≡ n
unfolding from
length_from a zero = refl
length_from a (suc n) = ap suc (length_from (suc a) n)

shift : (a j : ℕ) → suc a + j ≡ a + suc j
shift a j = omega arith

pub get_d-from {ℓ} : {A : Type ℓ} (f : ℕ → A) (a n j : ℕ) (d : A) → j < n → get_or (map f (from a n)) j d ≡ f (a + j)
unfolding from
get_d-from f a zero j d h = absurd (not-suc-le-zero h)
get_d-from f a (suc n) zero d h = ap f (sym (add-zero a))
get_d-from f a (suc n) (suc j) d h = get_d-from f (suc a) n j d (le_of_suc-le-suc h) ∙ ap f (shift a j)

-- one more at its end
pub from_more : (a n : ℕ) → from a (suc n) ≡ from a n ++ ((a + n) ∷ [])
unfolding from
from_more a zero = ap (λ k. k ∷ []) (sym (add-zero a))
from_more a (suc n) = ap (λ l. a ∷ l) (from_more (suc a) n ∙ ap (λ k. from (suc a) n ++ (k ∷ [])) (shift a n))

pub from-below : (a n : ℕ) → Every (λ k. k < a + n) (from a n)
unfolding from
from-below a zero = tt
from-below a (suc n) = (omega arith, every-imp _ _ (λ k h. omega arith) (from (suc a) n) (from-below (suc a) n))

pub every-from : (Q : ℕ → Type 0) (a n : ℕ) → Every Q (from a n) → (j : ℕ) → j < n → Q (a + j)
unfolding from
every-from Q a zero e j h = absurd (not-suc-le-zero h)
every-from Q a (suc n) e zero h = subst Q (sym (add-zero a)) e.0
every-from Q a (suc n) e (suc j) h = subst Q (shift a j) (every-from Q (suc a) n e.1 j (le_of_suc-le-suc h))

-- one of a range weighs no more than all
pub total-from {ℓ} : {A : Type ℓ} (f : A → ℕ) (g : ℕ → A) (a n j : ℕ) → j < n → f (g (a + j)) ≤ total f (map g (from a n))
unfolding total from
total-from f g a zero j h = absurd (not-suc-le-zero h)
total-from f g a (suc n) zero h = subst (λ k. f (g k) ≤ f (g a) + total f (map g (from (suc a) n))) (sym (add-zero a)) (omega arith)
total-from f g a (suc n) (suc j) h = subst (λ k. f (g k) ≤ f (g a) + total f (map g (from (suc a) n))) (shift a j) (omega (arith, total-from f g (suc a) n j (le_of_suc-le-suc h)))

-- ---- order: each entry before all that follow

abbrev pub Ordered {ℓ} : {A : Type ℓ} → (A → A → Type 0) → List A → Type 0
Ordered R [] = Unit {0}
Ordered R (x ∷ l) = Every (R x) l × Ordered R l

module _ {ℓ} {A : Type ℓ} (R : A → A → Type 0) where
  ordered-put : (b : Bool) (x : A) (l : List A) → Every (R x) l → Ordered R l → Ordered R (put_if b x l)
  unfolding put_if
  ordered-put true x l h r = (h, r)
  ordered-put false x l h r = r

  pub ordered-keep : (p : A → Bool) (l : List A) → Ordered R l → Ordered R (keep p l)
  unfolding keep
  ordered-keep p [] r = tt
  ordered-keep p (x ∷ l) r = ordered-put (p x) x (keep p l) (every-keep (R x) p l r.0) (ordered-keep p l r.1)

  -- from neighbours to all, where the order is transitive
  pub ordered-along : (p : A → A → Bool) (Q : A → Type 0) → ((x y : A) → Q x → Q y → T (p x y) → R x y) → ((x y z : A) → R x y → R y z → R x z)
      → (l : List A) → Every Q l → T (along p l) → Ordered R l
  unfolding along along_from
  ordered-along p Q step trans [] e t = tt
  ordered-along p Q step trans (x ∷ []) e t = (tt, tt)
  ordered-along p Q step trans (x ∷ y ∷ l) e t =
      let r : R x y = step x y e.0 e.1.0 (and_l (p x y) (along_from p y l) t) in
      let rest : Ordered R (y ∷ l) = ordered-along p Q step trans (y ∷ l) e.1 (and_r (p x y) (along_from p y l) t) in
      ((r, every-imp (R y) (R x) (λ z h. trans x y z r h) l rest.0), rest)

  pub ordered_at : (l : List A) → Ordered R l → (d : A) (i j : ℕ) → i < j → j < length l → R (get_or l i d) (get_or l j d)
  ordered_at [] o d i j h g = absurd (not-suc-le-zero g)
  ordered_at (x ∷ l) o d i zero h g = absurd (not-suc-le-zero h)
  ordered_at (x ∷ l) o d zero (suc j) h g = every-at (R x) l d j o.0 (le_of_suc-le-suc g)
  ordered_at (x ∷ l) o d (suc i) (suc j) h g = ordered_at l o.1 d i j (le_of_suc-le-suc h) (le_of_suc-le-suc g)

-- numbers that rise
pub rising-at : (l : List ℕ) → along ltb l ≡ true → (i j : ℕ) → i < j → j < length l → get_or l i 0 < get_or l j 0
rising-at l h i j a b =
    ordered_at (λ x y. x < y) l
    (ordered-along (λ x y. x < y) ltb (λ x. Unit {0}) (λ x y p q t. ltb→lt x y t) (λ x y z p q. trans x y z p q) l (every-all _ (λ x. tt) l) (subst T (sym h) tt)) 0 i j a b
  where
    trans : (x y z : ℕ) → x < y → y < z → x < z
    trans x y z p q = omega arith

pub ordered-map {ℓ κ} : {A : Type ℓ} {B : Type κ} (R : B → B → Type 0) (f : A → B) (l : List A) → Ordered (λ x y. R (f x) (f y)) l → Ordered R (map f l)
ordered-map R f [] r = tt
ordered-map R f (x ∷ l) r = (every_map (R (f x)) f l r.0, ordered-map R f l r.1)

-- ---- two lists side by side

abbrev pub Pairs : {A B : Type 0} → (A → B → Type 0) → List A → List B → Type 0
Pairs R [] [] = Unit {0}
Pairs R [] (y ∷ ys) = ⊥
Pairs R (x ∷ xs) [] = ⊥
Pairs R (x ∷ xs) (y ∷ ys) = R x y × Pairs R xs ys

module _ {A B : Type 0} (R : A → B → Type 0) where
  pub pairs-append : (xs : List A) (ys : List B) (us : List A) (vs : List B) → Pairs R xs ys → Pairs R us vs → Pairs R (xs ++ us) (ys ++ vs)
  pairs-append [] [] us vs h k = k
  pairs-append [] (y ∷ ys) us vs h k = absurd h
  pairs-append (x ∷ xs) [] us vs h k = absurd h
  pairs-append (x ∷ xs) (y ∷ ys) us vs h k = (h.0, pairs-append xs ys us vs h.1 k)

  pub pairs_set : (xs : List A) (ys : List B) (i : ℕ) (x : A) (y : B) → Pairs R xs ys → R x y → Pairs R (set xs i x) (set ys i y)
  pairs_set [] [] i x y h r = tt
  pairs_set [] (v ∷ ys) i x y h r = absurd h
  pairs_set (u ∷ xs) [] i x y h r = absurd h
  pairs_set (u ∷ xs) (v ∷ ys) zero x y h r = (r, h.1)
  pairs_set (u ∷ xs) (v ∷ ys) (suc i) x y h r = (h.0, pairs_set xs ys i x y h.1 r)

  -- what each two agree in, the lists agree in
  pub pairs-map : {C : Type 0} (f : A → C) (g : B → C) → ((x : A) (y : B) → R x y → f x ≡ g y) → (xs : List A) (ys : List B) → Pairs R xs ys → map f xs ≡ map g ys
  pairs-map f g same [] [] h = refl
  pairs-map f g same [] (y ∷ ys) h = absurd h
  pairs-map f g same (x ∷ xs) [] h = absurd h
  pairs-map f g same (x ∷ xs) (y ∷ ys) h = λ i. same x y h.0 i ∷ pairs-map f g same xs ys h.1 i

  pub pairs-length : (xs : List A) (ys : List B) → Pairs R xs ys → length xs ≡ length ys
  pairs-length [] [] h = refl
  pairs-length [] (y ∷ ys) h = absurd h
  pairs-length (x ∷ xs) [] h = absurd h
  pairs-length (x ∷ xs) (y ∷ ys) h = ap suc (pairs-length xs ys h.1)
