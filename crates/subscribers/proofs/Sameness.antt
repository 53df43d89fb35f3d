-- The tests of sameness decide equality.
use Rattle.std.proofs.Common.{◌≡◌, Bool, true, false, Decides, sym, refl, ap, ◌∙◌}
use Rattle.std.proofs.lemmas.Bool.Decides.{Decides-and, Decides-eqb, Decides-like, same_from_decides}
use Rattle.std.proofs.lemmas.Bool.{and_left, and_right, eq-eqb, ne_eqb}
use Rattle.clients.specs.Subs.{Sub}
use Rattle.protocol.specs.Bytes.{alike}
use Rattle.protocol.proofs.Bytes.{alike_decides}
use Rattle.subscribers.specs.Standing.{Standing, same_sub, same_pair}

sub_equal : (a b : Sub) → a.who ≡ b.who → a.token ≡ b.token → a ≡ b
sub_equal a b e f =
    ap (λ w. let s : Sub = record { who = w; token = a.token } in s) e
    ∙ ap (λ t. let s : Sub = record { who = b.who; token = t } in s) f

pub same_sub_decides : (a b : Sub) → Decides (same_sub a b) (a ≡ b)
same_sub_decides a b =
    Decides-like (same_sub a b) (λ e. sub_equal a b e.0 e.1) (λ e. (ap (λ s. s.who) e, ap (λ s. s.token) e))
    (Decides-and _ _ (alike_decides a.who b.who) (alike_decides a.token b.token))

pair_equal : (x y : Standing) → x.handle ≡ y.handle → x.sub ≡ y.sub → x ≡ y
pair_equal x y e f =
    ap (λ h. let p : Standing = record { handle = h; sub = x.sub } in p) e
    ∙ ap (λ s. let p : Standing = record { handle = y.handle; sub = s } in p) f

pub same_pair_decides : (x y : Standing) → Decides (same_pair x y) (x ≡ y)
same_pair_decides x y =
    Decides-like (same_pair x y) (λ e. pair_equal x y e.0 e.1) (λ e. (ap (λ p. p.handle) e, ap (λ p. p.sub) e))
    (Decides-and _ _ (Decides-eqb x.handle y.handle) (same_sub_decides x.sub y.sub))

-- pairs of different handles are not the same
pub other-handle : (x y : Standing) → (x.handle ≡ y.handle → ⊥) → false ≡ same_pair x y
other-handle x y ne = sym (and_left _ _ (ne_eqb _ _ ne))

-- nor are those of different clients
pub other_client : (x y : Standing) (q : Bool) → Decides q (x.sub.who ≡ y.sub.who) → q ≡ false → false ≡ same_pair x y
other_client x y q d e =
    let no : alike x.sub.who y.sub.who ≡ false = same_from_decides _ _ (alike_decides _ _) d ∙ e in
    sym (and_right _ _ (and_left _ _ no))

-- with handle and client the same, the tokens decide
pub by_token : (x y : Standing) (q r : Bool) → x.handle ≡ y.handle → Decides q (x.sub.who ≡ y.sub.who) → q ≡ true → Decides r (x.sub.token ≡ y.sub.token) → r ≡ same_pair x y
by_token x y q r h dq e dr =
    let first = eq-eqb x.handle y.handle h in
    let second : alike x.sub.who y.sub.who ≡ true = same_from_decides _ _ (alike_decides _ _) dq ∙ e in
    let third : r ≡ alike x.sub.token y.sub.token = same_from_decides _ _ dr (alike_decides _ _) in
    rw (first, second) third

pub same_pair_sym : (x y : Standing) → same_pair x y ≡ same_pair y x
same_pair_sym x y =
    same_from_decides _ _ (same_pair_decides x y) (Decides-like (same_pair y x) sym sym (same_pair_decides y x))

pub same_pair_refl : (x : Standing) → same_pair x x ≡ true
same_pair_refl x = (same_pair_decides x x).1 refl

-- equal pairs stand for one another
pub same_pair-means : (x y : Standing) → same_pair x y ≡ true → x ≡ y
same_pair-means x y e = (same_pair_decides x y).0 e
