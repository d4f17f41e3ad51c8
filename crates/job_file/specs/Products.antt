-- How the products of a session are made, and the texts that tell it.
use Rattle.std.specs.Prelude.{ℕ, Bool, true, false, if◌then◌else◌, List, codes, Option, Some, None}
use Rattle.std.specs.Str.{bytes_eq}
use Rattle.job_file.specs.declared.products.Products.{Products}
use Rattle.job_file.specs.declared.products.Products.TheVariants.{Direct, Prepared, Ahead}

-- they are prepared, in either order
abbrev pub are_prepared : Products → Bool
are_prepared Direct = false
are_prepared Prepared = true
are_prepared Ahead = true

-- the masks of all come ahead of the products of masks
abbrev pub come_ahead : Products → Bool
come_ahead Direct = false
come_ahead Prepared = false
come_ahead Ahead = true

-- the way that this text tells: direct, prepared or ahead
unfoldable pub products_named : List ℕ → Option Products
products_named name =
    if bytes_eq name (codes "direct") then Some Direct
    else if bytes_eq name (codes "prepared") then Some Prepared
    else if bytes_eq name (codes "ahead") then Some Ahead
    else None
