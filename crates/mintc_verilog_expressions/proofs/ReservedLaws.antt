-- What doesn't look like a reserved word is none.
use Rattle.std.proofs.Common.{◌≡◌, ℕ, List, Bool, true, false, ◌||◌, bytes_eq, refl, sym, ap, ◌∙◌}
use Rattle.std.specs.Prelude.{codes}
use Rattle.std.proofs.lemmas.Bool.{false≢true}
use Rattle.std.proofs.lemmas.Slice.Eq.{bytes_eq-Decides}
use Rattle.mintc_verilog_expressions.specs.Lexemes.{is_reserved, is_module_word, is_net_word, is_assign_word, is_process_word, is_gate_word, is_buffer_word}
use Rattle.mintc_verilog_expressions.specs.Reserved.{looks_reserved}

-- a word is not one that looks otherwise
other : (word reserved : List ℕ) → looks_reserved word ≡ false → looks_reserved reserved ≡ true → bytes_eq word reserved ≡ false
other word reserved h g = by (bytes_eq word reserved) refl
  where
    by : (b : Bool) → bytes_eq word reserved ≡ b → bytes_eq word reserved ≡ false
    by false e = e
    by true e = absurd (false≢true (sym h ∙ ap looks_reserved ((bytes_eq-Decides word reserved).0 e) ∙ g))

none : {a b : Bool} → a ≡ false → b ≡ false → (a || b) ≡ false
none {b = b} e f = ap (λ (x : Bool). x || b) e ∙ f

no_module_word : (word : List ℕ) → looks_reserved word ≡ false → is_module_word word ≡ false
no_module_word word h = none (none (none (none (other word (codes "module") h refl) (other word (codes "endmodule") h refl)) (other word (codes "input") h refl)) (other word (codes "output") h refl)) (other word (codes "inout") h refl)

no_net_word : (word : List ℕ) → looks_reserved word ≡ false → is_net_word word ≡ false
no_net_word word h = none (none (none (none (other word (codes "wire") h refl) (other word (codes "tri") h refl)) (other word (codes "supply0") h refl)) (other word (codes "supply1") h refl)) (other word (codes "reg") h refl)

no_assign_word : (word : List ℕ) → looks_reserved word ≡ false → is_assign_word word ≡ false
no_assign_word word h = none (none (none (other word (codes "assign") h refl) (other word (codes "parameter") h refl)) (other word (codes "localparam") h refl)) (other word (codes "defparam") h refl)

no_process_word : (word : List ℕ) → looks_reserved word ≡ false → is_process_word word ≡ false
no_process_word word h = none (none (none (none (none (none (other word (codes "always") h refl) (other word (codes "initial") h refl)) (other word (codes "generate") h refl)) (other word (codes "endgenerate") h refl)) (other word (codes "function") h refl)) (other word (codes "task") h refl)) (other word (codes "specify") h refl)

no_gate_word : (word : List ℕ) → looks_reserved word ≡ false → is_gate_word word ≡ false
no_gate_word word h = none (none (none (none (none (other word (codes "and") h refl) (other word (codes "nand") h refl)) (other word (codes "or") h refl)) (other word (codes "nor") h refl)) (other word (codes "xor") h refl)) (other word (codes "xnor") h refl)

no_buffer_word : (word : List ℕ) → looks_reserved word ≡ false → is_buffer_word word ≡ false
no_buffer_word word h = none (none (none (none (none (other word (codes "buf") h refl) (other word (codes "not") h refl)) (other word (codes "bufif0") h refl)) (other word (codes "bufif1") h refl)) (other word (codes "notif0") h refl)) (other word (codes "notif1") h refl)

pub not_reserved : (word : List ℕ) → looks_reserved word ≡ false → is_reserved word ≡ false
unfolding is_reserved
not_reserved word h = none (none (none (none (none (no_module_word word h) (no_net_word word h)) (no_assign_word word h)) (no_process_word word h)) (no_gate_word word h)) (no_buffer_word word h)
