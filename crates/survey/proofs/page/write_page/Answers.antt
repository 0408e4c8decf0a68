-- `survey::page::write_page` meets its contract: the page is made in an array that holds every page, and then written whole or not at all.
use Prim.Native.Nat.{ℕ, ◌≤◌}
use mathlib.Core.List.{List}
use mathlib.Core.Path.{◌≡◌, sym}
use native.Mathlib.Omega.{arith}
use lib.ListN.{length, take, replicate, length-replicate}
use Rattle.text.specs.Writing.{Put}
use Rattle.survey.specs.declared.Survey.{Survey}
use lib.Seq.{length-take-le}
use Rattle.text.specs.WritingLaws.{read-front, same-fitted, put-length}
use Rattle.survey.specs.Page.{page, longest_page}
use Rattle.survey.proofs.Widths.{page-length}
use Rattle.survey.proofs.page.write_page.Goals as goal

-- the page in its array: its length and its bytes
made : (r : Survey) (k : ℕ) (new : List ℕ) (end : ℕ) → Put (replicate longest_page 0) new 0 end (page r k) → (end ≡ length (page r k)) × (take end new ≡ page r k)
made r k new end p = read-front (omega (arith, page-length r k, length-replicate {A = ℕ} longest_page 0)) p

within : (r : Survey) (k : ℕ) (new : List ℕ) (end : ℕ) → Put (replicate longest_page 0) new 0 end (page r k) → end ≤ length new
within r k new end p = omega (arith, (made r k new end p).0, page-length r k, put-length p, length-replicate {A = ℕ} longest_page 0)

pub slice_bounds-text-end : goal.slice_bounds-text-end
slice_bounds-text-end c = within _ _ _ _ c.put_page-end.ensures

pub slice_bounds-write_bytes-end : goal.slice_bounds-write_bytes-end
slice_bounds-write_bytes-end c = sym (length-take-le _ _ (within _ _ _ _ c.put_page-end.ensures))

pub returns : goal.returns
returns c =
    let both = same-fitted _ (made _ _ _ _ c.put_page-end.ensures).1 (c.write_bytes.ensures.value, c.write_bytes.ensures.out_after) in
    record { value = both.0; out_after = both.1 }
