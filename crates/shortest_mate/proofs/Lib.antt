mod Escapes
mod Faster
mod Shown
mod Told
