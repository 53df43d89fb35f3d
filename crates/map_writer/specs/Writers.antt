-- Bytes that a writer writes over its buffer, and the laws of such writing.
use Rattle.std.specs.Prelude.{◌≡◌, ℕ, ◌+◌, ◌≤◌, List, [], ◌++◌, length, take, drop, refl}
use Rattle.std.proofs.Common.{sym, ap, ◌∙◌, append_assoc, add_assoc, arith, length-append}
use Rattle.std.proofs.lemmas.List.{take-append-drop, take_at, drop_at, drop-drop, length-take-le, length-drop}
use Rattle.map_writer.specs.declared.buffer.Writer.{Writer}
use Rattle.map_writer.specs.Buffers.{overlaid}
use Rattle.map_writer.specs.Sinks.{SinkLaws}

-- the buffer has room for these bytes
abbrev pub HasRoom : Writer → List ℕ → Type 0
HasRoom w bytes = w.at + length bytes ≤ length w.out.now

-- these bytes were written over the same buffer, from the writer's place on
pub record Wrote (w : Writer) (bytes : List ℕ) (v : Writer) : Type 0 where
  pub same_reference : v.out.ghost_name ≡ w.out.ghost_name
  pub buffer : v.out.now ≡ overlaid w.out.now w.at bytes
  pub ends : v.at ≡ w.at + length bytes

-- nothing written, nothing changed
overlaid_nil : (buffer : List ℕ) (at : ℕ) → buffer ≡ overlaid buffer at []
overlaid_nil buffer at = sym (ap (λ k. take at buffer ++ drop k buffer) {x = at + 0} {y = at} (omega arith) ∙ take-append-drop at buffer)

-- a buffer keeps its length
length-overlaid : (buffer xs : List ℕ) (at : ℕ) → at + length xs ≤ length buffer → length (overlaid buffer at xs) ≡ length buffer
length-overlaid buffer xs at room =
    length-append (take at buffer) (xs ++ drop (at + length xs) buffer)
    ∙ omega (arith, length-take-le at buffer (omega arith), length-append xs (drop (at + length xs) buffer), length-drop (at + length xs) buffer)

-- what is written behind bytes just written stands behind them
overlaid-append : (buffer xs ys : List ℕ) (at : ℕ) → at + length xs ≤ length buffer
    → overlaid (overlaid buffer at xs) (at + length xs) ys ≡ overlaid buffer at (xs ++ ys)
overlaid-append buffer xs ys at room =
    let front = take at buffer in
    let behind = drop (at + length xs) buffer in
    let len : length (front ++ xs) ≡ at + length xs = length-append front xs ∙ ap (λ k. k + length xs) (length-take-le at buffer (omega arith)) in
    let split : overlaid buffer at xs ≡ front ++ xs ++ behind = sym (append_assoc front xs behind) in
    ap (λ b. overlaid b (at + length xs) ys) split
    ∙ ap (λ l. l ++ (ys ++ drop (at + length xs + length ys) (front ++ xs ++ behind))) (take_at (front ++ xs) behind (at + length xs) len)
    ∙ ap (λ l. front ++ xs ++ (ys ++ l)) (sym (drop-drop (length ys) (at + length xs) (front ++ xs ++ behind)) ∙ ap (drop (length ys)) (drop_at (front ++ xs) behind (at + length xs) len) ∙ drop-drop (length ys) (at + length xs) buffer)
    ∙ append_assoc front xs (ys ++ drop (at + length xs + length ys) buffer)
    ∙ ap (λ l. front ++ l) (sym (append_assoc xs ys (drop (at + length xs + length ys) buffer)))
    ∙ ap (λ k. front ++ (xs ++ ys ++ drop k buffer)) {x = at + length xs + length ys} {y = at + length (xs ++ ys)} (add_assoc at (length xs) (length ys) ∙ ap (λ k. at + k) (sym (length-append xs ys)))

pub writer_laws : SinkLaws HasRoom Wrote
writer_laws = record {
  nothing = λ w h. record { same_reference = refl; buffer = overlaid_nil w.out.now w.at; ends = omega arith };
  front = λ w xs ys h. omega (arith, length-append xs ys);
  behind = λ w v xs ys h p. omega (arith, length-append xs ys, p.ends, ap length p.buffer, length-overlaid w.out.now xs w.at (omega (arith, length-append xs ys)));
  both = λ w v u xs ys h p q. record {
    same_reference = q.same_reference ∙ p.same_reference;
    buffer = q.buffer ∙ ap (λ k. overlaid v.out.now k ys) p.ends ∙ ap (λ b. overlaid b (w.at + length xs) ys) p.buffer ∙ overlaid-append w.out.now xs ys w.at (omega (arith, length-append xs ys));
    ends = q.ends ∙ ap (λ k. k + length ys) p.ends ∙ add_assoc w.at (length xs) (length ys) ∙ ap (λ k. w.at + k) (sym (length-append xs ys));
  };
}
