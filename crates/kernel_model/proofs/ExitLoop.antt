-- Exits, one after another.
use Rattle.std.proofs.Common.{◌≡◌, ℕ, ◌+◌, ◌<◌, List, [], ◌∷◌, length, get_or, drop, sym, ap, subst, ◌∙◌, arith}
use Rattle.std.proofs.lemmas.List.{drop_more}
use Rattle.vocabulary.specs.declared.names.Name.{Name}
use Rattle.definitions.specs.Table.{Table}
use Rattle.call_laws.specs.Pieces.{with_rows}
use Rattle.definitions.specs.Calls.{exited, after_exits}
use Rattle.kernel_table.specs.declared.store.Store.{Store}
use Rattle.kernel_table.specs.Room.{EditsRows, IsKept}
use Rattle.kernel_model.proofs.CallsKept.{IsKept-exits}

module _ (names : List Name) (i : ℕ) (d : Name) (s t : Table) (e : t ≡ with_rows s (exited (get_or names i d) s.rows)) where
  pub table-turn : i < length names → after_exits (drop (i + 1) names) t ≡ after_exits (drop i names) s
  table-turn lt = ap (after_exits (drop (i + 1) names)) e ∙ sym (ap (λ ns. after_exits ns s) (drop_more names i d lt))

  pub kept-turn : IsKept s → IsKept t
  kept-turn h = subst IsKept (sym e) (IsKept-exits (get_or names i d ∷ []) s h)

pub EditsRows-then : (a b c : Store) → EditsRows a b → EditsRows b c → EditsRows a c
EditsRows-then a b c g h = record {
  others = h.others ∙ ap (λ (s : Store). record s { holders = c.holders; last = c.last; lone = c.lone }) g.others;
  names = λ known. h.names (g.names known);
  len = omega (arith, g.len, h.len);
  capacity = h.capacity ∙ g.capacity;
}
