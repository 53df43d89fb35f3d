use Rattle.std.proofs.Common.{◌≡◌, ℕ, ◌+◌, ◌*◌, [], ◌∷◌, ◌++◌, get_or, Some, None, vec_items, Option, sym, ap, ◌∙◌, subst}
use Rattle.hexadecimal.proofs.Texts.{Goes, space, first, second, spaceless, goes_at}
use Rattle.hexadecimal.proofs.decode.Goals as goal
use Rattle.hexadecimal.proofs.decode.Goals.{in-None-Some, in-None-None+else-c-ne32, in-Some-Some+in_ok-push-in-Some-Some}

pub loop-c-preserved : goal.loop-c-preserved
loop-c-preserved c =
    let cs = c.args.text.now in
    let read = vec_items c.loop-c.bytes in
    let i = c.loop-c.c-index in
    let at : (h : Option ℕ) → c.loop-c.high ≡ h → Goes cs read h i = λ h e. subst (λ h. Goes cs read h i) e c.loop-c.invariant.0 in
    elim c.match-high.branch [
      | in-None-Some w ↦
          let d = w.in-None-Some.digit in
          let e = sym w.in-None-Some.ensures.value in
          goes_at cs _ read _ (Some d) (i + 1) (ap vec_items w.bytes-is) w.high-is w.in-None-Some.ensures.bound
          (first cs read i c.loop-c-test.true d (spaceless (get_or cs i 0) d e) e (at None w.in-None-Some.is-0))
      | in-None-None+else-c-ne32 w ↦
          goes_at cs _ read _ None (i + 1) (ap vec_items w.bytes-is) (w.high-is ∙ w.in-None-None.is-0) tt
          (space cs read i c.loop-c-test.true w.if-c-ne32.false (at None w.in-None-None.is-0))
      | in-Some-Some+in_ok-push-in-Some-Some w ↦
          let h = w.in-Some-Some.first in
          let d = w.in-Some-Some.digit in
          goes_at cs _ (read ++ (h * 16 + d) ∷ []) _ None (i + 1) (ap vec_items w.bytes-is ∙ w.in_ok-push-in-Some-Some.ensures.items) w.high-is tt
          (second cs read i c.loop-c-test.true h d (sym w.in-Some-Some.ensures.value) (at (Some h) w.in-Some-Some.is-0))
    ]
