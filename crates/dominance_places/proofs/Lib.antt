mod Among
mod Both
mod Listed
mod Same
